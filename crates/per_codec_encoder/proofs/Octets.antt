-- The octets of a message, from its bits.
use Rattle.std.proofs.Common.{◌≡◌, ℕ, ◌-◌, ◌%◌, ◌==◌, Bool, true, false, List, [], ◌∷◌, ◌++◌, length, replicate, Some, option_map, option_and_then, refl, ap, sym, ◌∙◌, eq-eqb}
use Rattle.std.proofs.lemmas.List.{length-replicate}
use Rattle.asn1_model.specs.Form.{exactly, only_if, written}
use Rattle.asn1_model.specs.Numbers.{packed}
use Rattle.asn1_model.specs.Per
use Rattle.asn1_values_bits.specs.Octets.{padded}
use Rattle.per_codec_packing.specs.FieldLists.{as_field_list}
use Rattle.per_codec_encoder.specs.Ties.{octets_of}
use Rattle.per_codec_packing.proofs.Formed.{plain_field_list}

padding_written : (n p : ℕ) → written (Per.padding n) p ≡ Some (replicate n false)
unfolding Per.padding written
padding_written n p = let h : (length (replicate n false) == n) ≡ true = eq-eqb _ _ (length-replicate n false) in
    ap (λ (t : Bool). written (only_if {F = Per.Freedom} {D = Per.Detail} t (exactly (replicate n false))) p) h

some_padded : (b : Bool) (bs : List Bool) → written (Per.padded (b ∷ bs)) 0 ≡ Some (padded (b ∷ bs))
unfolding Per.padded written
some_padded b bs = ap (option_map (λ d. (b ∷ bs) ++ d)) (padding_written ((8 - length (b ∷ bs) % 8) % 8) _)

of_bits : (l : List Bool) → octets_of (as_field_list l, []) ≡ option_map packed (written (Per.padded l) 0)
of_bits l = ap (option_and_then (λ w. option_map packed (written (Per.padded w) 0))) (plain_field_list l)

-- one zero octet if there are no bits
pub of_none : (l : List Bool) (os : List ℕ) → l ≡ [] → os ≡ 0 ∷ [] → octets_of (as_field_list l, []) ≡ Some os
unfolding Per.padded written
of_none l os e f = of_bits l ∙ ap (λ x. option_map packed (written (Per.padded x) 0)) e ∙ one ∙ ap Some (sym f)
  where
    one : option_map packed (written (Per.padded []) 0) ≡ Some (0 ∷ [])
    one = refl

pub of_some : (l : List Bool) (os : List ℕ) → (l ≡ [] → ⊥) → os ≡ packed (padded l) → octets_of (as_field_list l, []) ≡ Some os
of_some [] os n e = absurd (n refl)
of_some (b ∷ bs) os n e = of_bits (b ∷ bs) ∙ ap (option_map packed) (some_padded b bs) ∙ ap Some (sym e)
