-- The canonical text of these forms is the same at every position.
use Rattle.std.proofs.Common.{◌≡◌, ℕ, ◌+◌, Bool, true, false, List, [], ◌∷◌, ◌++◌, length, Option, Some, None, option_map, option_and_then, refl, ap, sym, ◌∙◌}
use Rattle.std.specs.Prelude.{ℤ, pos, negsuc, ltb, cond, ◌^◌}
use Rattle.asn1_model.specs.Schema.{Tag, Range, Bounds}
use Rattle.asn1_model.specs.Numbers.{digits, octet_width, least_octets, signed_octets, complement}
use Rattle.asn1_model.specs.Form.{Form, exactly, refused, both, varied, written, only_if, given}
use Rattle.asn1_model.specs.Strings.{is_octet}
use Rattle.std.specs.List.{list_all}
use Rattle.asn1_model.specs.Oer

-- a form whose canonical text does not depend on its position
pub record Still {F : Type 0} {D : F → Type 0} {A : Type 0} (x : Form F D A) : Type 0 where
  pub at : (p : ℕ) → written x p ≡ written x 0

chain_same : {X Y : Type 0} (o : Option X) (k k' : X → Option Y) → ((x : X) → k x ≡ k' x) → option_and_then k o ≡ option_and_then k' o
chain_same None k k' h = refl
chain_same (Some x) k k' h = h x

module _ {F : Type 0} {D : F → Type 0} {A : Type 0} where
  pub still_exactly : (l : List A) → Still {F = F} {D = D} (exactly l)
  unfolding written
  still_exactly l = record { at = λ p. refl }

  pub still_refused : Still {F = F} {D = D} {A = A} refused
  unfolding written
  still_refused = record { at = λ p. refl }

  pub still_both : {x y : Form F D A} → Still x → Still y → Still (both x y)
  unfolding written
  still_both {x} {y} h k = record {
    at = λ p. ap (λ o. option_and_then (λ a. option_map (λ b. a ++ b) (written y (p + length a))) o) (h.at p)
        ∙ chain_same (written x 0) (λ a. option_map (λ b. a ++ b) (written y (p + length a))) (λ a.
        option_map (λ b. a ++ b) (written y (0 + length a))) (λ a. ap (λ o. option_map (λ b. a ++ b) o) (k.at (p + length a) ∙ sym (k.at (0 + length a))));
  }

  pub still_varied : {c : F} {d : D c} {f : D c → Form F D A} → Still (f d) → Still (varied c d f)
  unfolding written
  still_varied h = record { at = λ p. h.at p }

  pub still_cond : (b : Bool) {x y : Form F D A} → Still x → Still y → Still (cond b x y)
  still_cond true h k = h
  still_cond false h k = k

  pub still_if : (b : Bool) {x : Form F D A} → Still x → Still (only_if b x)
  still_if true h = h
  still_if false {x} h = still_refused

  pub still_given : {X : Type 0} (o : Option X) {f : X → Form F D A} → ((x : X) → Still (f x)) → Still (given o f)
  still_given None {f} h = still_refused
  still_given (Some x) h = h x

abbrev pub OctetsStill : Oer.OctetForm → Type 0
OctetsStill x = Still {F = Oer.Freedom} {D = Oer.Detail} {A = ℕ} x

length_still : (n : ℕ) → OctetsStill (Oer.length_form n)
unfolding Oer.length_form
length_still n = still_if (ltb n (2 ^ 64)) (still_varied (by_length (ltb n 128) refl))
  where
    by_length : (t : Bool) → ltb n 128 ≡ t → OctetsStill (elim (cond t None (Some (octet_width n))) [ None ↦ only_if (ltb n 128) (exactly (n ∷ [])) | Some k ↦ Oer.long_length n k ])
    by_length true e = still_if (ltb n 128) (still_exactly _)
    by_length false e = still_if _ (still_exactly _)

pub counted_still : (os : List ℕ) → OctetsStill (Oer.counted os)
unfolding Oer.counted
counted_still os = still_if (list_all is_octet os) (still_both (length_still (length os)) (still_exactly os))

pub unsigned_still : (n : ℕ) → OctetsStill (Oer.unsigned n)
unfolding Oer.unsigned
unsigned_still n = still_varied (still_if _ (counted_still (digits 256 (least_octets n) n)))

signed_still : (v : ℤ) → OctetsStill (Oer.signed v)
unfolding Oer.signed
signed_still v = still_varied (still_if _ (counted_still (complement (signed_octets v) v)))

natural_form_still : (o : Option ℕ) (v : ℤ) → OctetsStill (Oer.natural_form o v)
natural_form_still (Some k) (pos n) = still_exactly _
natural_form_still None (pos n) = unsigned_still n
natural_form_still (Some k) (negsuc n) = still_refused
natural_form_still None (negsuc n) = still_refused

signed_form_still : (o : Option ℕ) (v : ℤ) → OctetsStill (Oer.signed_form o v)
signed_form_still (Some k) v = still_exactly _
signed_form_still None v = signed_still v

bounded_still : (low high : Option ℤ) (v : ℤ) → OctetsStill (Oer.bounded low high v)
unfolding Oer.bounded
bounded_still (Some (pos low)) (Some (pos high)) v = natural_form_still _ v
bounded_still (Some (pos low)) (Some (negsuc high)) v = natural_form_still None v
bounded_still (Some (pos low)) None v = natural_form_still None v
bounded_still (Some (negsuc low)) (Some high) v = signed_form_still _ v
bounded_still (Some (negsuc low)) None v = signed_still v
bounded_still None high v = signed_still v

pub integer_still : (b : Bounds) (h : Range) (v : ℤ) → OctetsStill (Oer.integer_form b h v)
unfolding Oer.integer_form
integer_still b h v = still_if _ (still_cond b.extensible (signed_still v) (still_if _ (bounded_still b.range.low b.range.high v)))

short_still : (v : ℤ) → OctetsStill (Oer.short_item v)
short_still (pos n) = still_if _ (still_exactly _)
short_still (negsuc n) = still_refused

pub item_still : (v : ℤ) → OctetsStill (Oer.item_form v)
unfolding Oer.item_form
item_still v = still_varied (go (Oer.item_octets v))
  where
    go : (o : Option ℕ) → OctetsStill (elim o [ None ↦ Oer.short_item v | Some k ↦ Oer.long_item k v ])
    go None = short_still v
    go (Some k) = still_if _ (still_exactly _)

bits_still : (bs : List Bool) → OctetsStill (Oer.bits_form bs)
unfolding Oer.bits_form
bits_still bs = still_varied (still_if _ (still_exactly _))

pub counted_bits_still : (bs : List Bool) → OctetsStill (Oer.counted_bits bs)
unfolding Oer.counted_bits
counted_bits_still bs = still_both (length_still _) (still_both (still_exactly _) (bits_still bs))

pub bit_string_still : (t : Bool) (bs : List Bool) → OctetsStill (Oer.bit_string_form t bs)
unfolding Oer.bit_string_form
bit_string_still true bs = bits_still bs
bit_string_still false bs = still_varied (counted_bits_still bs)

pub octets_still : (t : Bool) (os : List ℕ) → OctetsStill (Oer.octets_form t os)
unfolding Oer.octets_form
octets_still true os = still_if _ (still_exactly _)
octets_still false os = counted_still os

pub tag_still : (t : Tag) → OctetsStill (Oer.tag_form t)
unfolding Oer.tag_form
tag_still t = still_varied (still_cond _ (still_if _ (still_exactly _)) (still_if _ (still_exactly _)))
