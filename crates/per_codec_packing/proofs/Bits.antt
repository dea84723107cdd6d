-- The bits of a field-list, and one of them changed.
use Rattle.std.proofs.Common.{◌≡◌, ℕ, zero, suc, ◌+◌, ◌<◌, Bool, List, [], ◌∷◌, ◌++◌, length, set, refl, ap, ◌∙◌, arith}
use Rattle.per_codec_packing.specs.FieldLists.{FieldList, bit, padding, as_field_list}
use Rattle.per_codec_packing.specs.Packed.{solid, with_bit}

pub solid-append : (s t : FieldList) → solid (s ++ t) ≡ solid s ++ solid t
solid-append [] t = refl
solid-append (bit b ∷ s) t = ap (λ l. b ∷ l) (solid-append s t)
solid-append (padding ∷ s) t = solid-append s t

pub solid-bits : (l : List Bool) → solid (as_field_list l) ≡ l
solid-bits [] = refl
solid-bits (b ∷ l) = ap (λ m. b ∷ m) (solid-bits l)

-- a bit of a field-list that is bits alone, of such bits at the start, and of what follows a field-list
pub changed_bits : (i : ℕ) (b : Bool) (l : List Bool) → with_bit i b (as_field_list l) ≡ as_field_list (set l i b)
changed_bits zero b [] = refl
changed_bits (suc i) b [] = refl
changed_bits zero b (c ∷ l) = refl
changed_bits (suc i) b (c ∷ l) = ap (λ t. bit c ∷ t) (changed_bits i b l)

pub changed_front : (i : ℕ) (b : Bool) (l : List Bool) (t : FieldList) → i < length l → with_bit i b (as_field_list l ++ t) ≡ as_field_list (set l i b) ++ t
changed_front i b [] t h = absurd (omega arith)
changed_front zero b (c ∷ l) t h = refl
changed_front (suc i) b (c ∷ l) t h = ap (λ u. bit c ∷ u) (changed_front i b l t (omega arith))

pub changed_behind : (i : ℕ) (b : Bool) (s t : FieldList) → with_bit (length (solid s) + i) b (s ++ t) ≡ s ++ with_bit i b t
changed_behind i b [] t = let e : 0 + i ≡ i = omega arith in ap (λ k. with_bit k b t) e
changed_behind i b (bit c ∷ s) t = let e : length (solid (bit c ∷ s)) + i ≡ suc (length (solid s) + i) = omega arith in
    ap (λ k. with_bit k b (bit c ∷ s ++ t)) e ∙ ap (λ u. bit c ∷ u) (changed_behind i b s t)
changed_behind i b (padding ∷ s) t = ap (λ u. padding ∷ u) (changed_behind i b s t)
