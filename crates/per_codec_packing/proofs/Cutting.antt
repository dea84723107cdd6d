-- A field-list that is truncated.
use Rattle.std.proofs.Common.{◌≡◌, ℕ, zero, suc, ◌+◌, ◌-◌, ◌≤◌, Bool, List, [], ◌∷◌, ◌++◌, length, take, drop, inl, inr, refl, ap, subst, sym, ◌∙◌, arith, length-append}
use Rattle.std.proofs.lemmas.Bool.{cases_lt}
use Rattle.std.proofs.lemmas.List.{length-drop, length-take, length-take-le, take-append-le, take-take, take-map, drop-take}
use Rattle.std.proofs.Math.Seq.{take-append-add}
use Rattle.per_codec_packing.specs.FieldLists.{FieldList, bit, padding, as_field_list}
use Rattle.per_codec_packing.proofs.Formed.{length-field_list}
use Rattle.per_codec_packing.specs.Packed.{Packed, solid}
use Rattle.per_codec_packing.specs.Spread.{spread, shown, Ascend, ArePaddings}
use Rattle.per_codec_packing.proofs.Bits.{solid-append, solid-bits}
use Rattle.per_codec_packing.proofs.Spread.{up_to, reaches, behind}

-- ---- how long it is

length-spread : (from : ℕ) (bits : List Bool) (fs : List ℕ) → Ascend from fs (from + length bits) → length (spread from bits fs) ≡ length bits + length fs
length-spread from bits [] a = omega (arith, length-field_list bits)
length-spread from bits (f ∷ fs) a =
    let n = f - from in
    let h = reaches from f bits fs a in
    let i = length-spread f (drop n bits) fs (behind from f bits fs a) in
    omega (arith, length-append (as_field_list (take n bits)) (padding ∷ spread f (drop n bits) fs), length-field_list (take n bits), length-take-le n bits h, length-drop n bits, i, h)

-- ---- a prefix of it

solid-short : (t : FieldList) → length (solid t) ≤ length t
solid-short [] = omega arith
solid-short (bit b ∷ t) = let h = solid-short t in omega arith
solid-short (padding ∷ t) = let h = solid-short t in omega arith

-- bits at the start, and what follows them
module _ (n : ℕ) (bits : List Bool) (h : n ≤ length bits) (t : FieldList) where
  first : FieldList
  first = as_field_list (take n bits)

  within_bits : (m : ℕ) → m ≤ n → take m (as_field_list (take n bits) ++ t) ≡ as_field_list (take m bits)
  within_bits m l =
      let k : length (as_field_list (take n bits)) ≡ n = length-field_list (take n bits) ∙ length-take-le n bits h in
      take-append-le m (as_field_list (take n bits)) t (omega (arith, k, l)) ∙ take-map (λ b. bit b) m (take n bits) ∙ ap as_field_list (take-take m n bits l)

  past_bits : (k : ℕ) → take (n + k) (as_field_list (take n bits) ++ t) ≡ as_field_list (take n bits) ++ take k t
  past_bits k =
      let e : length (as_field_list (take n bits)) ≡ n = length-field_list (take n bits) ∙ length-take-le n bits h in
      ap (λ j. take (j + k) (as_field_list (take n bits) ++ t)) (sym e) ∙ take-append-add (as_field_list (take n bits)) t k

  solid_past : (u : FieldList) → length (solid (as_field_list (take n bits) ++ u)) ≡ n + length (solid u)
  solid_past u =
      ap length (solid-append (as_field_list (take n bits)) u ∙ ap (λ l. l ++ solid u) (solid-bits (take n bits))) ∙
      length-append (take n bits) (solid u) ∙ ap (λ k. k + length (solid u)) (length-take-le n bits h)

-- bits alone
bits_front : (m : ℕ) (bits : List Bool) → take m (as_field_list bits) ≡ as_field_list (take m bits)
bits_front m bits = take-map (λ b. bit b) m bits

-- a prefix of bits alone, by the count of its bits
no_padding : (from m : ℕ) (bits : List Bool) (fs : List ℕ) → Ascend from fs (from + length bits) → length (solid (take m (spread from bits fs))) ≡ m →
    take m (spread from bits fs) ≡ as_field_list (take m bits)
no_padding from m bits [] a e = bits_front m bits
no_padding from m bits (f ∷ fs) a e = elim (cases_lt (f - from) m) [
  | inr l ↦ within_bits (f - from) bits (reaches from f bits fs a) (padding ∷ spread f (drop (f - from) bits) fs) m l
  | inl l ↦
      let n = f - from in
      let h = reaches from f bits fs a in
      let rest : FieldList = spread f (drop n bits) fs in
      let k : ℕ = m - n - 1 in
      let split : m ≡ n + suc k = omega (arith, l) in
      let parts : length (solid (take m (spread from bits (f ∷ fs)))) ≡ n + length (solid (take k rest)) =
      ap (λ j. length (solid (take j (spread from bits (f ∷ fs))))) split ∙
      ap (λ t. length (solid t)) (past_bits n bits h (padding ∷ rest) (suc k)) ∙ solid_past n bits h (padding ∷ rest) (padding ∷ take k rest) in
      absurd (omega (arith, parts, e, split, solid-short (take k rest), length-take k rest))
]

record Cut (from b f : ℕ) (bits : List Bool) (fs : List ℕ) : Type 0 where
  is : spread from (take b bits) (take f fs) ≡ take (b + f) (spread from bits fs)
  ascend : Ascend from (take f fs) (from + length (take b bits))

none_taken : {X : Type 0} (xs : List X) → take 0 xs ≡ []
none_taken [] = refl
none_taken (x ∷ xs) = refl

cut : (from b f : ℕ) (bits : List Bool) (fs : List ℕ) → Ascend from fs (from + length bits) → b + f ≤ length (spread from bits fs) →
    length (solid (take (b + f) (spread from bits fs))) ≡ b → Cut from b f bits fs
cut from b zero bits fs a l e =
    let z : b + 0 ≡ b = omega arith in
    let t : length (solid (take b (spread from bits fs))) ≡ b = ap (λ k. length (solid (take k (spread from bits fs)))) (sym z) ∙ e in
    record {
      is = ap (λ k. spread from (take b bits) k) (none_taken fs) ∙ sym (ap (λ k. take k (spread from bits fs)) z ∙ no_padding from b bits fs a t);
      ascend = subst (λ k. Ascend from k (from + length (take b bits))) (sym (none_taken fs)) (omega arith);
    }
cut from b (suc f) bits [] a l e =
    let t : length (solid (take (b + suc f) (as_field_list bits))) ≡ b + suc f = ap (λ x. length (solid x)) (bits_front (b + suc f) bits) ∙
    ap length (solid-bits (take (b + suc f) bits)) ∙ length-take-le (b + suc f) bits (omega (arith, l, length-field_list bits)) in
    absurd (omega (arith, t, e))
cut from b (suc f) bits (g ∷ gs) a l e = elim (cases_lt (g - from) (b + suc f)) [
  | inr k ↦
      let n = g - from in
      let h = reaches from g bits gs a in
      let t : length (solid (take (b + suc f) (spread from bits (g ∷ gs)))) ≡ b + suc f =
      ap (λ x. length (solid x)) (within_bits n bits h (padding ∷ spread g (drop n bits) gs) (b + suc f) k) ∙
      ap length (solid-bits (take (b + suc f) bits)) ∙ length-take-le (b + suc f) bits (omega (arith, k, h)) in
      absurd (omega (arith, t, e))
  | inl k ↦
      let n = g - from in
      let h = reaches from g bits gs a in
      let rest : FieldList = spread g (drop n bits) gs in
      let c : ℕ = b - n in
      let parts : length (solid (take (b + suc f) (spread from bits (g ∷ gs)))) ≡ n + length (solid (take (b + f - n) rest)) =
      let split : b + suc f ≡ n + suc (b + f - n) = omega (arith, k) in
      ap (λ j. length (solid (take j (spread from bits (g ∷ gs))))) split ∙
      ap (λ t. length (solid t)) (past_bits n bits h (padding ∷ rest) (suc (b + f - n))) ∙ solid_past n bits h (padding ∷ rest) (padding ∷ take (b + f - n) rest) in
      let enough : n ≤ b = omega (arith, parts, e) in
      let same : b + f - n ≡ c + f = omega (arith, enough) in
      let whole : b ≡ n + c = omega (arith, enough) in
      let long : c + f ≤ length rest =
      omega (arith, l, length-append (as_field_list (take n bits)) (padding ∷ rest), length-field_list (take n bits), length-take-le n bits h, enough) in
      let solid_is : length (solid (take (c + f) rest)) ≡ c = omega (arith, parts, e, whole, ap (λ j. length (solid (take j rest))) same) in
      let i = cut g c f (drop n bits) gs (behind from g bits gs a) long solid_is in
      let dropped : drop n (take b bits) ≡ take c (drop n bits) = ap (λ j. drop n (take j bits)) whole ∙ drop-take n c bits in
      record {
        is =
            ap (λ x. as_field_list x ++ padding ∷ spread g (drop n (take b bits)) (take f gs)) (take-take n b bits enough)
            ∙ ap (λ x. as_field_list (take n bits) ++ padding ∷ spread g x (take f gs)) dropped
            ∙ ap (λ x. as_field_list (take n bits) ++ padding ∷ x) (i.is ∙ ap (λ j. take j rest) (sym same))
            ∙ sym (past_bits n bits h (padding ∷ rest) (suc (b + f - n)))
            ∙ ap (λ j. take j (as_field_list (take n bits) ++ padding ∷ rest)) (let s : n + suc (b + f - n) ≡ b + suc f = omega (arith, enough) in s);
        ascend = (
          a.0,
          up_to g (g + length (take c (drop n bits))) (from + length (take b bits)) (take f gs)
              (omega (arith, a.0, length-take c (drop n bits), length-drop n bits, length-take b bits, h, whole)) i.ascend,
        );
      }
]

-- ---- what is stored

no_more : (k : ℕ) → (let l : List ℕ = [] in take k l) ≡ []
no_more zero = refl
no_more (suc k) = refl

module _ (bits : List Bool) (paddings : List ℕ) (placed : Bool) (h : ArePaddings bits paddings placed) (v : Packed) (is : shown bits paddings placed ≡ v) where
  in_order : Ascend 0 paddings (0 + length bits)
  in_order = up_to 0 (length bits) (0 + length bits) paddings (omega arith) h.ascend

  pub counted : length (solid v.field_list) ≡ length bits → length (solid v.field_list) + length paddings ≡ length v.field_list
  counted e = omega (arith, e, ap (λ (p : Packed). length p.field_list) is, length-spread 0 bits paddings in_order)

  module _ (b f : ℕ) (l : b + f ≤ length v.field_list) (e : length (solid (take (b + f) v.field_list)) ≡ b) where
    cut_here : Cut 0 b f bits paddings
    cut_here = cut 0 b f bits paddings in_order (subst (λ (p : Packed). b + f ≤ length p.field_list) (sym is) l) (subst (λ (p : Packed). length (solid (take (b + f) p.field_list)) ≡ b) (sym is) e)

    pub still_kept : (new : List Bool) (left : List ℕ) → new ≡ take b bits → left ≡ take f paddings → ArePaddings new left placed
    still_kept new left x y = record {
      ascend = subst (λ k. Ascend 0 k (length new)) (sym y) (up_to 0 (0 + length (take b bits)) (length new) (take f paddings) (omega (arith, ap length x)) cut_here.ascend);
      known = λ p. y ∙ ap (take f) (h.known p) ∙ no_more f;
    }

    pub cut_shown : (new : List Bool) (left : List ℕ) → new ≡ take b bits → left ≡ take f paddings → shown new left placed ≡ record { field_list = take (b + f) v.field_list; placed = v.placed }
    cut_shown new left x y =
        ap (λ k. shown k left placed) x ∙ ap (λ k. shown (take b bits) k placed) y
        ∙ ap (λ t. let p : Packed = record { field_list = t; placed = placed } in p) cut_here.is
        ∙ ap (λ (p : Packed). let q : Packed = record { field_list = take (b + f) p.field_list; placed = p.placed } in q) is
