-- The smallest of some tags.
use Rattle.std.proofs.Common.{◌≡◌, ◌∙◌, ◌⊎◌, inl, inr, refl, sym, ap, ℕ, zero, suc, Bool, true, false, cond, List, [], ◌∷◌, Some, slice_get}
use Rattle.asn1_model.specs.Schema.{Tag}
use Rattle.asn1_model.specs.Lawful.{tag_less, smallest}
use Rattle.asn1_laws_values.proofs.Order.{less_itself, less_past, less_back}

-- one step of the next lemma, by whether the second tag is less than the first
not_above_step : (d u : Tag) (us : List Tag) → tag_less u (smallest u us) ≡ false → tag_less d (smallest d us) ≡ false
    → (b : Bool) → tag_less u d ≡ b → tag_less d (cond b (smallest u us) (smallest d us)) ≡ false
not_above_step d u us p q true e = less_past d u (smallest u us) e p
not_above_step d u us p q false e = q

-- the first tag is not below the smallest
pub not_above : (d : Tag) (ts : List Tag) → tag_less d (smallest d ts) ≡ false
not_above d [] = less_itself d
not_above d (u ∷ us) = not_above_step d u us (not_above u us) (not_above d us) (tag_less u d) refl

-- the first tag is not less than the smallest
front_not_below : (d u : Tag) (us : List Tag) (b : Bool) → tag_less u d ≡ b → tag_less u (cond b (smallest u us) (smallest d us)) ≡ false
front_not_below d u us true e = not_above u us
front_not_below d u us false e = less_back u d (smallest d us) e (not_above d us)

-- nor are those after it
behind_not_below : (d u t : Tag) (us : List Tag) → tag_less t (smallest u us) ≡ false → tag_less t (smallest d us) ≡ false
    → (b : Bool) → tag_less t (cond b (smallest u us) (smallest d us)) ≡ false
behind_not_below d u t us p q true = p
behind_not_below d u t us p q false = q

-- no tag is less than the smallest
pub none_below : (d : Tag) (ts : List Tag) (i : ℕ) (t : Tag) → slice_get ts i ≡ Some t → tag_less t (smallest d ts) ≡ false
none_below d [] i t e = cc
none_below d (u ∷ us) zero t e =
    let same : u ≡ t = cc in ap (λ x. tag_less x (smallest d (u ∷ us))) (sym same) ∙ front_not_below d u us (tag_less u d) refl
none_below d (u ∷ us) (suc i) t e = behind_not_below d u t us (none_below u us i t e) (none_below d us i t e) (tag_less u d)

-- what is one of some tags
abbrev IsOne : Tag → List Tag → Tag → Type 0
IsOne d ts s = (s ≡ d) ⊎ ((i : ℕ) × (slice_get ts i ≡ Some s))

behind : (d u s : Tag) (us : List Tag) → IsOne d us s → IsOne d (u ∷ us) s
behind d u s us (inl e) = inl e
behind d u s us (inr (i, e)) = inr (suc i, e)

in_front : (d u s : Tag) (us : List Tag) → IsOne u us s → IsOne d (u ∷ us) s
in_front d u s us (inl e) = inr (0, ap (λ (x : Tag). Some x) (sym e))
in_front d u s us (inr (i, e)) = inr (suc i, e)

one_step : (d u : Tag) (us : List Tag) → IsOne u us (smallest u us) → IsOne d us (smallest d us)
    → (b : Bool) → IsOne d (u ∷ us) (cond b (smallest u us) (smallest d us))
one_step d u us p q true = in_front d u (smallest u us) us p
one_step d u us p q false = behind d u (smallest d us) us q

-- the smallest is the first tag, or one of the others
pub is_one : (d : Tag) (ts : List Tag) → (smallest d ts ≡ d) ⊎ ((i : ℕ) × (slice_get ts i ≡ Some (smallest d ts)))
is_one d [] = inl refl
is_one d (u ∷ us) = one_step d u us (is_one u us) (is_one d us) (tag_less u d)
