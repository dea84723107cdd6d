-- The complete encoding of a field-list by itself (X.691 11.1).
use Rattle.std.proofs.Common.{◌≡◌, ℕ, ◌==◌, Bool, true, false, List, [], ◌∷◌, ◌++◌, length, replicate, Option, Some, None, option_map, option_and_then, refl, ap, sym, ◌∙◌, append_assoc, eq-eqb}
use Rattle.std.proofs.lemmas.List.{length-replicate}
use Rattle.asn1_model.specs.Form.{exactly, only_if, written}
use Rattle.asn1_model.specs.Numbers.{binary, missing, octet_bits}
use Rattle.asn1_model.specs.Per
use Rattle.asn1_values_bits.specs.Octets.{padded}
use Rattle.per_codec_packing.specs.FieldLists.{FieldList, as_field_list, field_list_at, as_form}
use Rattle.per_codec_packing.proofs.Formed.{known}
use Rattle.per_codec_packing.specs.Packed.{Packed, Adds, place, solid}
use Rattle.per_codec_packing.proofs.Adding.{added}
use Rattle.per_codec_packing.proofs.Bits.{solid-bits}

-- the bits of a field-list after nothing
pub bits_at_start : (o : Option (List Bool)) (w : FieldList) → option_map as_field_list o ≡ Some w → o ≡ Some (solid w)
bits_at_start None w e = cc
bits_at_start (Some l) w e = let f : as_field_list l ≡ w = cc in ap Some (sym (solid-bits l) ∙ ap solid f)

pub alone : (t : FieldList) (nothing all : Packed) → nothing ≡ record { field_list = []; placed = true } →
    Adds (field_list_at (as_form t) (place nothing)) nothing all → written (as_form t) 0 ≡ Some (solid all.field_list)
alone t nothing all e a =
    let p = added (field_list_at (as_form t) (place nothing)) nothing all a in
    let w : p.0 ≡ all.field_list = ap (λ (q : Packed). q.field_list ++ p.0) (sym e) ∙ ap (λ (q : Packed). q.field_list) p.2 in
    bits_at_start (written (as_form t) 0) p.0 (sym (known (as_form t) 0) ∙ ap (λ (q : Packed). field_list_at (as_form t) (place q)) (sym e) ∙ p.1) ∙ ap (λ u. Some (solid u)) w

padding_written : (n p : ℕ) → written (Per.padding n) p ≡ Some (replicate n false)
unfolding Per.padding written
padding_written n p = let h : (length (replicate n false) == n) ≡ true = eq-eqb _ _ (length-replicate n false) in
    ap (λ (t : Bool). written (only_if {F = Per.Freedom} {D = Per.Detail} t (exactly (replicate n false))) p) h

some_padded : (b : Bool) (bs : List Bool) → written (Per.padded (b ∷ bs)) 0 ≡ Some (padded (b ∷ bs))
unfolding Per.padded written
some_padded b bs = ap (option_map (λ d. (b ∷ bs) ++ d)) (padding_written (missing (length (b ∷ bs))) _)

completed : (x : Per.BitForm) (l : List Bool) → written x 0 ≡ Some l → written (Per.complete x) 0 ≡ written (Per.padded l) 0
unfolding written Per.complete
completed x l e = ap (option_and_then (λ w. written (Per.padded w) 0)) e

octets-append : (a b : List ℕ) → octet_bits (a ++ b) ≡ octet_bits a ++ octet_bits b
octets-append [] b = refl
octets-append (x ∷ a) b = ap (λ l. binary 8 x ++ l) (octets-append a b) ∙ sym (append_assoc (binary 8 x) (octet_bits a) (octet_bits b))

zeros : written (Per.padded []) 0 ≡ Some (padded [] ++ octet_bits (0 ∷ []))
unfolding written Per.padded
zeros = refl

-- one zero octet if there are no bits
pub of_none : (x : Per.BitForm) (l : List Bool) (os all : List ℕ) → written x 0 ≡ Some l → l ≡ [] → octet_bits os ≡ padded l → all ≡ os ++ 0 ∷ [] → written (Per.complete x) 0 ≡ Some (octet_bits all)
of_none x l os all e n b f =
    completed x l e ∙ ap (λ m. written (Per.padded m) 0) n ∙ zeros
    ∙ ap Some (ap (λ m. m ++ octet_bits (0 ∷ [])) (sym (b ∙ ap padded n)) ∙ sym (octets-append os (0 ∷ [])) ∙ ap octet_bits (sym f))

pub of_some : (x : Per.BitForm) (l : List Bool) (os : List ℕ) → written x 0 ≡ Some l → (l ≡ [] → ⊥) → octet_bits os ≡ padded l → written (Per.complete x) 0 ≡ Some (octet_bits os)
of_some x [] os e n b = absurd (n refl)
of_some x (c ∷ l) os e n b = completed x (c ∷ l) e ∙ some_padded c l ∙ ap Some (sym b)
