-- The field-lists of open types.
use Rattle.std.proofs.Common.{◌≡◌, ℕ, ◌+◌, ◌*◌, ◌/◌, ◌==◌, Bool, true, false, List, [], ◌∷◌, ◌++◌, length, replicate}
use Rattle.std.proofs.Common.{Option, Some, option_map, option_and_then, refl, ap, sym, ◌∙◌, arith, length-append}
use Rattle.std.proofs.lemmas.Bool.{eq-eqb}
use Rattle.std.proofs.lemmas.List.{append-nil, length-replicate}
use Rattle.asn1_model.specs.Form.{exactly, only_if, written}
use Rattle.asn1_model.specs.Numbers.{missing, packed, by_eights}
use Rattle.asn1_model.specs.Per
use Rattle.asn1_model.specs.Strings.{is_octet}
use Rattle.std.specs.List.{list_all}
use Rattle.asn1_laws_values.proofs.Octets.{eights_units, packed_octets}
use Rattle.asn1_values_bits.specs.Octets.{padded}
use Rattle.per_codec_packing.specs.FieldLists.{field_list_at}
use Rattle.per_codec_writing.specs.Writing.{Packed, Adds, place}
use Rattle.per_codec_writing.proofs.PaddingFieldLists.{adds_same, if_true}
use Rattle.std.specs.Prelude.{map}

open_field_list : (al : Bool) (w z : List Bool) (k : ℕ) (p : Option ℕ) → written (Per.padded w) 0 ≡ Some z → length z ≡ 8 * k →
    field_list_at (Per.open_type al (exactly w)) p ≡ field_list_at (Per.counted_octets al (packed z)) p
unfolding Per.open_type Per.complete Per.counted_octets written field_list_at
open_field_list al w z k p e n =
    ap (option_and_then (λ (y : List Bool). field_list_at (Per.counted al (map (λ o. exactly o) (by_eights (y ++ [])))) p)) e
    ∙ ap (λ y. field_list_at (Per.counted al (map (λ o. exactly o) (by_eights y))) p) (append-nil z)
    ∙ ap (λ us. field_list_at (Per.counted al us) p) (eights_units k z n)
    ∙ sym (if_true (list_all is_octet (packed z)) (Per.counted al (Per.octet_units (packed z))) p (packed_octets k z n))

padding_written : (n p : ℕ) → written (Per.padding n) p ≡ Some (replicate n false)
unfolding Per.padding written
padding_written n p = let h : (length (replicate n false) == n) ≡ true = eq-eqb _ _ (length-replicate n false) in
    ap (λ (t : Bool). written (only_if {F = Per.Freedom} {D = Per.Detail} t (exactly (replicate n false))) p) h

some_padded : (b : Bool) (bs : List Bool) → written (Per.padded (b ∷ bs)) 0 ≡ Some (padded (b ∷ bs))
unfolding Per.padded written
some_padded b bs = ap (option_map (λ d. (b ∷ bs) ++ d)) (padding_written (missing (length (b ∷ bs))) _)

none_padded : written (Per.padded []) 0 ≡ Some (replicate 8 false)
unfolding Per.padded written
none_padded = refl

pub adds_open_none : (al : Bool) (w : List Bool) (os : List ℕ) (old new : Packed) → w ≡ [] → os ≡ 0 ∷ [] →
    Adds (field_list_at (Per.counted_octets al os) (place old)) old new → Adds (field_list_at (Per.open_type al (exactly w)) (place old)) old new
adds_open_none al w os old new e f a =
    adds_same _ _ old new (ap (λ l. field_list_at (Per.open_type al (exactly l)) (place old)) e ∙
    open_field_list al [] (replicate 8 false) 1 (place old) none_padded refl ∙ ap (λ l. field_list_at (Per.counted_octets al l) (place old)) (sym f)) a

length_padded : (w : List Bool) → length (padded w) ≡ 8 * ((length w + missing (length w)) / 8)
length_padded w = omega (arith, length-append w (replicate (missing (length w)) false), length-replicate (missing (length w)) false)

pub adds_open_some : (al : Bool) (w : List Bool) (os : List ℕ) (old new : Packed) → (w ≡ [] → ⊥) → os ≡ packed (padded w) →
    Adds (field_list_at (Per.counted_octets al os) (place old)) old new → Adds (field_list_at (Per.open_type al (exactly w)) (place old)) old new
adds_open_some al [] os old new n e a = absurd (n refl)
adds_open_some al (b ∷ bs) os old new n e a =
    adds_same _ _ old new (open_field_list al (b ∷ bs) (padded (b ∷ bs)) _ (place old) (some_padded b bs) (length_padded (b ∷ bs)) ∙
    ap (λ l. field_list_at (Per.counted_octets al l) (place old)) (sym e)) a
