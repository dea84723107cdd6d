-- What is added in parts is the field-list of the whole: padding, conditions, and one form after another.
use Rattle.std.proofs.Common.{◌≡◌, ℕ, Bool, true, false, cond, List, Option, None, refl, ap, subst, ◌∙◌}
use Rattle.std.proofs.lemmas.List.{append-nil}
use Rattle.asn1_model.specs.Numbers.{missing}
use Rattle.asn1_model.specs.Form.{exactly, placed, only_if}
use Rattle.asn1_model.specs.Per
use Rattle.per_codec_packing.specs.FieldLists.{as_field_list, field_list_at}
use Rattle.per_codec_packing.proofs.Adding.{adds_bits, adds_padding}
pub use Rattle.per_codec_packing.proofs.Adding.{adds_field_list, adds_same, adds_both, none_first, none_second}
use Rattle.per_codec_writing.specs.Writing.{Packed, Adds, place, plus, padding_if}

-- ---- conditions

pub if_true : (b : Bool) (x : Per.BitForm) (q : Option ℕ) → b ≡ true → field_list_at (only_if b x) q ≡ field_list_at x q
if_true true x q e = refl
if_true false x q e = cc

pub if_false : (b : Bool) (x : Per.BitForm) (q : Option ℕ) → b ≡ false → field_list_at (only_if b x) q ≡ None
unfolding field_list_at
if_false true x q e = cc
if_false false x q e = refl

pub cond_true : (b : Bool) (x y : Per.BitForm) (q : Option ℕ) → b ≡ true → field_list_at (cond b x y) q ≡ field_list_at x q
cond_true true x y q e = refl
cond_true false x y q e = cc

pub cond_false : (b : Bool) (x y : Per.BitForm) (q : Option ℕ) → b ≡ false → field_list_at (cond b x y) q ≡ field_list_at y q
cond_false true x y q e = cc
cond_false false x y q e = refl

-- ---- padding

pub plus_nothing : (p : Packed) → plus p (padding_if false (place p)) ≡ p
plus_nothing p = ap (λ t. let q : Packed = record { field_list = t; placed = p.placed } in q) (append-nil p.field_list)

-- an octet-aligned form, after padding
pub adds_at_octet : (al : Bool) (x : Per.BitForm) (old mid new : Packed) → mid ≡ plus old (padding_if al (place old)) →
    Adds (field_list_at x (place mid)) mid new → Adds (field_list_at (Per.at_octet al x) (place old)) old new
unfolding Per.at_octet
adds_at_octet false x old mid new e a = subst (λ m. Adds (field_list_at x (place m)) m new) (e ∙ plus_nothing old) a
adds_at_octet true x old mid new e a = adds_both (placed (λ p. Per.padding (missing p))) x old mid new (adds_padding old mid e) a

pub none_at_octet : (al : Bool) (x : Per.BitForm) (old mid : Packed) → mid ≡ plus old (padding_if al (place old)) →
    field_list_at x (place mid) ≡ None → field_list_at (Per.at_octet al x) (place old) ≡ None
unfolding Per.at_octet
none_at_octet false x old mid e a = subst (λ m. field_list_at x (place m) ≡ None) (e ∙ plus_nothing old) a
none_at_octet true x old mid e a = none_second (placed (λ p. Per.padding (missing p))) x old mid (adds_padding old mid e) a

-- these bits, octet-aligned
pub adds_bits_at_octet : (al : Bool) (bits : List Bool) (old mid new : Packed) → mid ≡ plus old (padding_if al (place old)) →
    new ≡ plus mid (as_field_list bits) → Adds (field_list_at (Per.at_octet al (exactly bits)) (place old)) old new
adds_bits_at_octet al bits old mid new e h = adds_at_octet al (exactly bits) old mid new e (adds_bits bits mid new h)
