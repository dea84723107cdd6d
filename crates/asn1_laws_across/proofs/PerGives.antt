-- Equal values have the same canonical encoding in the packed rules.
use Rattle.std.proofs.Common.{◌≡◌, ℕ, ◌-◌, ◌*◌, ltb, leb, not, Bool, true, false, ◌&&◌, List, [], ◌∷◌, length, Option, Some, None, refl}
use Rattle.asn1_model.specs.Value.{Value, same}
use Rattle.asn1_model.specs.Schema.{Counts, Size, Schema}
use Rattle.asn1_model.specs.Lawful.{is_lawful}
use Rattle.asn1_model.specs.Numbers.{binary, is_count_within}
use Rattle.asn1_model.specs.Form.{exactly, both, written}
use Rattle.asn1_model.specs.Per
use Rattle.asn1_model.proofs.Forms.{reads_written}
use Rattle.asn1_laws_fronts.proofs.Complete.{complete_alike}
use Rattle.asn1_laws_fronts.proofs.Forms.{one_way}
use Rattle.asn1_laws_across.proofs.Orders.{bits_ordered}
use Rattle.asn1_laws_across.proofs.Gives.{Gives, gives_same, gives_both, gives_varied, gives_within, gives_if, gives_cond, EachGives, each_length, gives_joined, each_take, each_drop}
use Rattle.asn1_laws_values.specs.MessageLaws.{canonically}
use Rattle.asn1_laws_values.proofs.BitPieces.{bit_pieces, composed}
use Rattle.asn1_laws_across.proofs.OneText.{AreGiven, one_text}

abbrev Same : Per.BitForm → Per.BitForm → Type 0
Same x y = Gives {F = Per.Freedom} {D = Per.Detail} {A = Bool} x y

-- ---- units
at_octet_gives : (al : Bool) (x y : Per.BitForm) → Same x y → Same (Per.at_octet al x) (Per.at_octet al y)
unfolding Per.at_octet
at_octet_gives false x y h = h
at_octet_gives true x y h = gives_both (gives_same _) h

fragments_give : (al : Bool) (ms : List ℕ) (us vs : List Per.BitForm) → EachGives us vs → Same (Per.fragments al ms us) (Per.fragments al ms vs)
unfolding Per.fragments
fragments_give al [] us vs h = let l = each_length us vs h in rw l (gives_both (gives_same (Per.short_length al (length vs))) (gives_joined us vs h))
fragments_give al (m ∷ ms) us vs h = let l = each_length us vs h in
    rw l (gives_if (leb 1 m && leb m 4 && leb (m * 16384) (length vs)) _ _
    (gives_both (gives_same (Per.at_octet al (exactly (true ∷ true ∷ binary 6 m))))
    (gives_both (gives_joined _ _ (each_take (m * 16384) us vs h)) (fragments_give al ms _ _ (each_drop (m * 16384) us vs h)))))

counted_gives : (al : Bool) (us vs : List Per.BitForm) → EachGives us vs → Same (Per.counted al us) (Per.counted al vs)
unfolding Per.counted
counted_gives al us vs h = let l = each_length us vs h in rw l (gives_varied {c = Per.other_fragments} {c' = Per.other_fragments} (fragments_give al (Per.largest_first (length vs)) us vs h))

root_gives : (al : Bool) (c : Counts) (high : Option ℕ) (has_padding : Counts → Bool) (us vs : List Per.BitForm) → EachGives us vs →
    Same (Per.sized_root al c high has_padding us) (Per.sized_root al c high has_padding vs)
unfolding Per.sized_root
root_gives al c None has_padding us vs h = counted_gives al us vs h
root_gives al c (Some high) has_padding us vs h = let l = each_length us vs h in
    rw l (gives_cond (ltb high 65536) _ _ _ _
    (gives_both (gives_same (Per.constrained al (high - c.low) (length vs - c.low))) (at_octet_gives (al && has_padding c) _ _ (gives_joined us vs h))) (counted_gives al us vs h))

with_extension_bit_gives : (e b : Bool) (x y u v : Per.BitForm) → Same x y → Same u v → Same (Per.with_extension_bit e b x u) (Per.with_extension_bit e b y v)
unfolding Per.with_extension_bit
with_extension_bit_gives false b x y u v h k = gives_if b _ _ h
with_extension_bit_gives true b x y u v h k =
    gives_varied {c = Per.root_told_outside} {c' = Per.root_told_outside} (gives_cond (not b) _ _ _ _ (gives_both (gives_same _) k) (gives_if b _ _ (gives_both (gives_same _) h)))

sized_gives : (al : Bool) (z : Size) (held : Counts) (has_padding : Counts → Bool) (us vs : List Per.BitForm) → EachGives us vs →
    Same (Per.sized al z held has_padding us) (Per.sized al z held has_padding vs)
unfolding Per.sized
sized_gives al z held has_padding us vs h = let l = each_length us vs h in
    rw l (gives_if (is_count_within held (length vs)) _ _
    (with_extension_bit_gives z.extensible (is_count_within z.counts (length vs)) _ _ _ _ (root_gives al z.counts z.counts.high has_padding us vs h) (counted_gives al us vs h)))

complete_gives : (x y : Per.BitForm) → Same x y → Same (Per.complete x) (Per.complete y)
unfolding Per.complete
complete_gives x y h = gives_within h (λ w. gives_same (Per.padded w))

open_gives : (al : Bool) (x y : Per.BitForm) → Same x y → Same (Per.open_type al x) (Per.open_type al y)
unfolding Per.open_type
open_gives al x y h = gives_within (complete_gives x y h) (λ w. gives_same _)

added_gives : (al : Bool) (i : ℕ) (x y : Per.BitForm) → Same x y →
    Same (both (exactly (true ∷ [])) (both (Per.normally_small al i) (Per.open_type al x)))
    (both (exactly (true ∷ [])) (both (Per.normally_small al i) (Per.open_type al y)))
added_gives al i x y h = gives_both (gives_same _) (gives_both (gives_same _) (open_gives al x y h))

-- elements with the same complete encoding are equal
one_key : (al : Bool) (s : Schema) (v w : Value) (k : List Bool) → is_lawful s ≡ true → written (Per.complete (Per.form al s v)) 0 ≡ Some k →
    written (Per.complete (Per.form al s w)) 0 ≡ Some k → same v w ≡ true
one_key al s v w k l a b =
    let alike = complete_alike canonically _ _ _ (one_way canonically al s l v w) in
    (alike.fronts 0 k k [] [] (reads_written _ 0 k a) (reads_written _ 0 k b) refl).1

given_so : (al : Bool) → AreGiven (bit_pieces al)
given_so al = record {
  ordered = bits_ordered;
  lists = λ z c us vs h. sized_gives al z c (λ c. false) us vs h;
  open_types = λ x y h. open_gives al x y h;
  tagged = λ a t x y h. h;
  roots = λ e k i x y h. gives_both (gives_same _) (gives_both (gives_same _) h);
  added = added_gives al;
  keys = λ x y k h e. (complete_gives x y h).texts 0 k e;
  one_key = one_key al;
}

pub form_same : (al : Bool) (s : Schema) (v w : Value) → is_lawful s ≡ true → same v w ≡ true → Same (Per.form al s v) (Per.form al s w)
form_same al s v w l e = one_text (bit_pieces al) (composed al) (given_so al) s l v w e

pub messages_same : (al : Bool) (s : Schema) (v w : Value) → is_lawful s ≡ true → same v w ≡ true → Same (Per.message al s v) (Per.message al s w)
unfolding Per.message
messages_same al s v w l e = complete_gives _ _ (form_same al s v w l e)
