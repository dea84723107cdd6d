-- Equal values have the same canonical encoding in the octet rules.
use Rattle.std.proofs.Common.{◌≡◌, ℕ, Bool, true, false, cond, List, [], length, Some, refl}
use Rattle.asn1_model.specs.Value.{Value, same}
use Rattle.asn1_model.specs.Schema.{Counts, Schema}
use Rattle.asn1_model.specs.Lawful.{is_lawful}
use Rattle.asn1_model.specs.Numbers.{is_count_within}
use Rattle.asn1_model.specs.Form.{written}
use Rattle.asn1_model.specs.Oer
use Rattle.asn1_model.proofs.Forms.{reads_written}
use Rattle.asn1_laws_fronts.proofs.OctetForms.{one_way}
use Rattle.asn1_laws_across.proofs.Orders.{numbers_ordered}
use Rattle.asn1_laws_across.proofs.Gives.{Gives, gives_same, gives_both, gives_within, gives_if, EachGives, each_length, gives_joined}
use Rattle.asn1_laws_values.specs.MessageLaws.{canonically}
use Rattle.asn1_laws_values.proofs.OctetPieces.{octet_pieces, composed}
use Rattle.asn1_laws_across.proofs.OneText.{AreGiven, one_text}

abbrev Same : Oer.OctetForm → Oer.OctetForm → Type 0
Same x y = Gives {F = Oer.Freedom} {D = Oer.Detail} {A = ℕ} x y

members_give : (held : Counts) (us vs : List Oer.OctetForm) → EachGives us vs → Same (Oer.members_form held us) (Oer.members_form held vs)
unfolding Oer.members_form
members_give held us vs h = let l = each_length us vs h in rw l (gives_if (is_count_within held (length vs)) _ _ (gives_both (gives_same (Oer.unsigned (length vs))) (gives_joined us vs h)))

open_gives : (x y : Oer.OctetForm) → Same x y → Same (Oer.open_type x) (Oer.open_type y)
unfolding Oer.open_type
open_gives x y h = gives_within h (λ w. gives_same _)

tagged_gives : (a : Bool) (x y : Oer.OctetForm) → Same x y → Same (cond a (Oer.open_type x) x) (cond a (Oer.open_type y) y)
tagged_gives true x y h = open_gives x y h
tagged_gives false x y h = h

-- elements with the same encoding are equal
one_key : (s : Schema) (v w : Value) (k : List ℕ) → is_lawful s ≡ true → written (Oer.form s v) 0 ≡ Some k → written (Oer.form s w) 0 ≡ Some k →
    same v w ≡ true
one_key s v w k l a b =
    ((one_way canonically s l v w).fronts 0 k k [] [] (reads_written _ 0 k a) (reads_written _ 0 k b) refl).1

given_so : AreGiven octet_pieces
given_so = record {
  ordered = numbers_ordered;
  lists = λ z c us vs h. members_give c us vs h;
  open_types = open_gives;
  tagged = λ a t x y h. gives_both (gives_same _) (tagged_gives a x y h);
  roots = λ e k i x y h. h;
  added = λ i x y h. h;
  keys = λ x y k h e. h.texts 0 k e;
  one_key = one_key;
}

pub form_same : (s : Schema) (v w : Value) → is_lawful s ≡ true → same v w ≡ true → Same (Oer.form s v) (Oer.form s w)
form_same s v w l e = one_text octet_pieces composed given_so s l v w e
