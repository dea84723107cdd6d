-- Bits with padding in between, from a position.
use Rattle.std.proofs.Common.{◌≡◌, ℕ, zero, suc, ◌+◌, ◌-◌, ◌≤◌, Bool, List, [], ◌∷◌, ◌++◌, length, take, drop, set, inl, inr, refl, ap, sym, ◌∙◌, append_assoc, arith}
use Rattle.std.proofs.lemmas.Bool.{cases_lt}
use Rattle.std.proofs.lemmas.List.{length-drop, length-take-le, take-append-drop, take-append-le, drop-append-le, drop-set-lt, drop-set-add, take-set-le}
use Rattle.std.proofs.Math.Seq.{take-set-lt}
use Rattle.per_codec_packing.specs.FieldLists.{padding, as_field_list}
use Rattle.per_codec_packing.proofs.Formed.{as_field_list-append}
use Rattle.per_codec_packing.specs.Packed.{solid, with_bit}
use Rattle.per_codec_packing.proofs.Bits.{solid-append, solid-bits, changed_bits, changed_front, changed_behind}
use Rattle.per_codec_packing.specs.Spread.{spread, Ascend}

-- ---- positions

pub goes_up : (from to : ℕ) (fs : List ℕ) → Ascend from fs to → from ≤ to
goes_up from to [] a = a
goes_up from to (f ∷ fs) a = let h = goes_up f to fs a.1 in omega (arith, a.0)

pub up_to : (from to more : ℕ) (fs : List ℕ) → to ≤ more → Ascend from fs to → Ascend from fs more
up_to from to more [] h a = omega arith
up_to from to more (f ∷ fs) h a = (a.0, up_to f to more fs h a.1)

pub one_place : (from to : ℕ) (fs : List ℕ) → Ascend from fs to → Ascend from (fs ++ to ∷ []) to
one_place from to [] a = (a, omega arith)
one_place from to (f ∷ fs) a = (a.0, one_place f to fs a.1)

-- ---- bits after a position

module _ (from f : ℕ) (bits : List Bool) (fs : List ℕ) (a : Ascend from (f ∷ fs) (from + length bits)) where
  pub reaches : f - from ≤ length bits
  reaches = let h = goes_up f (from + length bits) fs a.1 in omega (arith, a.0)

  behind_length : f + length (drop (f - from) bits) ≡ from + length bits
  behind_length = let h = reaches in let l = length-drop (f - from) bits in omega (arith, a.0)

  pub behind : Ascend f fs (f + length (drop (f - from) bits))
  behind = up_to f (from + length bits) (f + length (drop (f - from) bits)) fs (let e = behind_length in omega arith) a.1

-- ---- what is added

pub spread-bits : (from : ℕ) (bits w : List Bool) (fs : List ℕ) → Ascend from fs (from + length bits) → spread from (bits ++ w) fs ≡ spread from bits fs ++ as_field_list w
spread-bits from bits w [] a = sym (as_field_list-append bits w)
spread-bits from bits w (f ∷ fs) a =
    let h = reaches from f bits fs a in
    let n = f - from in
    ap (λ l. as_field_list l ++ padding ∷ spread f (drop n (bits ++ w)) fs) (take-append-le n bits w h)
    ∙ ap (λ l. as_field_list (take n bits) ++ padding ∷ spread f l fs) (drop-append-le n bits w h)
    ∙ ap (λ t. as_field_list (take n bits) ++ padding ∷ t) (spread-bits f (drop n bits) w fs (behind from f bits fs a))
    ∙ sym (append_assoc (as_field_list (take n bits)) (padding ∷ spread f (drop n bits) fs) (as_field_list w))

pub all_taken : (n : ℕ) (bits : List Bool) → length bits ≤ n → take n bits ≡ bits
all_taken zero [] h = refl
all_taken zero (b ∷ bits) h = absurd (omega arith)
all_taken (suc n) [] h = refl
all_taken (suc n) (b ∷ bits) h = ap (λ l. b ∷ l) (all_taken n bits (omega arith))

pub none_left : {X : Type 0} (n : ℕ) (bits : List X) → length bits ≤ n → drop n bits ≡ []
none_left zero [] h = refl
none_left zero (b ∷ bits) h = absurd (omega arith)
none_left (suc n) [] h = refl
none_left (suc n) (b ∷ bits) h = none_left n bits (omega arith)

pub spread-padding : (from to : ℕ) (bits : List Bool) (fs : List ℕ) → to ≡ from + length bits → Ascend from fs to → spread from bits (fs ++ to ∷ []) ≡ spread from bits fs ++ padding ∷ []
spread-padding from to bits [] e a =
    ap (λ l. as_field_list l ++ padding ∷ as_field_list (drop (to - from) bits)) (all_taken (to - from) bits (omega arith))
    ∙ ap (λ l. as_field_list bits ++ padding ∷ as_field_list l) (none_left (to - from) bits (omega arith))
spread-padding from to bits (f ∷ fs) e a =
    let n = f - from in
    let g = goes_up f to fs a.1 in
    let l = length-drop n bits in
    ap (λ t. as_field_list (take n bits) ++ padding ∷ t) (spread-padding f to (drop n bits) fs (omega (arith, a.0)) a.1)
    ∙ sym (append_assoc (as_field_list (take n bits)) (padding ∷ spread f (drop n bits) fs) (padding ∷ []))

-- ---- the bits of a field-list

pub solid-spread : (from : ℕ) (bits : List Bool) (fs : List ℕ) → solid (spread from bits fs) ≡ bits
solid-spread from bits [] = solid-bits bits
solid-spread from bits (f ∷ fs) =
    let n = f - from in
    solid-append (as_field_list (take n bits)) (padding ∷ spread f (drop n bits) fs)
    ∙ ap (λ l. l ++ solid (spread f (drop n bits) fs)) (solid-bits (take n bits))
    ∙ ap (λ l. take n bits ++ l) (solid-spread f (drop n bits) fs)
    ∙ take-append-drop n bits

-- ---- one bit changed

pub spread-set : (from : ℕ) (bits : List Bool) (fs : List ℕ) (i : ℕ) (b : Bool) → Ascend from fs (from + length bits) → spread from (set bits i b) fs ≡ with_bit i b (spread from bits fs)
spread-set from bits [] i b a = sym (changed_bits i b bits)
spread-set from bits (f ∷ fs) i b a = elim (cases_lt i (f - from)) [
  | inl h ↦
      let n = f - from in
      let k = length-take-le n bits (reaches from f bits fs a) in
      ap (λ l. as_field_list l ++ padding ∷ spread f (drop n (set bits i b)) fs) (take-set-lt n bits i b h)
      ∙ ap (λ l. as_field_list (set (take n bits) i b) ++ padding ∷ spread f l fs) (drop-set-lt n bits i b h)
      ∙ sym (changed_front i b (take n bits) (padding ∷ spread f (drop n bits) fs) (omega arith))
  | inr h ↦
      let n = f - from in
      let j = i - n in
      let k = length-take-le n bits (reaches from f bits fs a) in
      let e : i ≡ n + j = omega arith in
      let g : i ≡ length (solid (as_field_list (take n bits))) + j = omega (arith, ap length (solid-bits (take n bits))) in
      ap (λ l. as_field_list l ++ padding ∷ spread f (drop n (set bits i b)) fs) (take-set-le n bits i b h)
      ∙ ap (λ m. as_field_list (take n bits) ++ padding ∷ spread f (drop n (set bits m b)) fs) e
      ∙ ap (λ l. as_field_list (take n bits) ++ padding ∷ spread f l fs) (drop-set-add n bits j b)
      ∙ ap (λ t. as_field_list (take n bits) ++ padding ∷ t) (spread-set f (drop n bits) fs j b (behind from f bits fs a))
      ∙ sym (ap (λ m. with_bit m b (as_field_list (take n bits) ++ padding ∷ spread f (drop n bits) fs)) g ∙ changed_behind j b (as_field_list (take n bits)) (padding ∷ spread f (drop n bits) fs))
]
