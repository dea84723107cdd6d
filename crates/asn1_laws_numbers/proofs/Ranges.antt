-- Numbers of wide ranges, aligned: in octets after their length, which is again a number of a range.
use Rattle.std.specs.Prelude.{leb, ltb, not}
use Rattle.std.proofs.Common.{◌≡◌, ℕ, zero, suc, ◌-◌, ◌*◌, ◌^◌, ◌<◌, ◌≤◌, ◌==◌, inr, lit<, Bool, true, false, cond, ◌&&◌, ◌||◌, List, length, flat_map, refl, ap, sym, ◌∙◌, subst, arith}
use Rattle.std.proofs.lemmas.Bool.{ltb-true, ltb-false, le-leb, leb-true, eqb-true, and_parts}
use Rattle.asn1_model.specs.Numbers.{digits, binary, width, octet_width, least_octets}
use Rattle.asn1_model.specs.Strings.{is_octet}
use Rattle.std.specs.List.{list_all}
use Rattle.asn1_model.specs.Form.{Reads, exactly, both, varied, only_if}
use Rattle.asn1_model.specs.Per
use Rattle.asn1_laws_values.proofs.Places.{places_fewest}
use Rattle.asn1_laws_values.proofs.Numbers.{least_hold}
use Rattle.asn1_laws_numbers.specs.Padded.{IsReadAsAny, behind_their_number}
use Rattle.asn1_laws_numbers.proofs.Numbers.{digits_sum, fewest_octets}
use Rattle.asn1_laws_numbers.proofs.Padded.{digits_back, read_if, if_read}
use Rattle.std.specs.Int.Digits.{number_from_digits_after}

pointwise : {X Y : Type 0} {f g : X → Y} → ((x : X) → f x ≡ g x) → f ≡ g
pointwise h = λ i x. h x i

-- the octets of a number are at most as many as the number
below_power : (n : ℕ) → n < 256 ^ n
below_power zero = omega arith
below_power (suc n) = let i = below_power n in let e : 256 ^ suc n ≡ 256 * 256 ^ n = omega arith in omega arith

fewer_octets : (n : ℕ) → octet_width n ≤ n
fewer_octets n = places_fewest n 256 n n (lit< tt) (below_power n)

-- ---- the limit on nested lengths makes no difference
abbrev by_span : (ℕ → ℕ → Per.BitForm) → Bool → Bool → Bool → Bool → ℕ → ℕ → Per.BitForm
by_span whole al a b c span n = cond a (exactly (binary (width span) n))
    (cond b (Per.at_octet al (exactly (binary 8 n))) (cond c (Per.at_octet al (exactly (binary 16 n))) (varied Per.longer_number (least_octets n) (λ k. Per.in_octets_of whole al span n k))))

same_octets_of : (f g : ℕ → ℕ → Per.BitForm) (al : Bool) (span n k : ℕ) → f (octet_width span - 1) (k - 1)
    ≡ g (octet_width span - 1) (k - 1) → Per.in_octets_of f al span n k ≡ Per.in_octets_of g al span n k
unfolding Per.in_octets_of
same_octets_of f g al span n k e = ap (λ x. only_if (leb (least_octets n) k && leb k (octet_width span)) (both x (Per.at_octet al (exactly (flat_map (binary 8) (digits 256 k n)))))) e

same_by_span : (f g : ℕ → ℕ → Per.BitForm) (al : Bool) (span n : ℕ) (a b c : Bool) →
    (c ≡ false → (x : ℕ) → f (octet_width span - 1) x ≡ g (octet_width span - 1) x) → by_span f al a b c span n ≡ by_span g al a b c span n
same_by_span f g al span n true b c h = refl
same_by_span f g al span n false true c h = refl
same_by_span f g al span n false false true h = refl
same_by_span f g al span n false false false h = ap (λ l. varied Per.longer_number (least_octets n) l) (pointwise (λ k. same_octets_of f g al span n k (h refl (k - 1))))

same_most : (m n : ℕ) (al : Bool) (span d : ℕ) → span < m → span < n → Per.constrained_in m al span d ≡ Per.constrained_in n al span d
unfolding Per.constrained_in
same_most zero n al span d h i = absurd (omega arith)
same_most (suc m) zero al span d h i = absurd (omega arith)
same_most (suc m) (suc n) al span d h i =
    ap (λ x. only_if (leb d span) x) (same_by_span (λ s c. Per.constrained_in m al s c) (λ s c. Per.constrained_in n al s c) al span d (not al || ltb span 255) (span == 255) (ltb span 65536) (λ e x.
    let w = ltb-false span 65536 e in
    let f = fewer_octets span in
    same_most m n al (octet_width span - 1) x (omega arith) (omega arith)))

-- ---- a range of more than 65536 numbers
not_less : (n m : ℕ) → m ≤ n → ltb n m ≡ false
not_less n m h = by (ltb n m) refl
  where
    by : (b : Bool) → ltb n m ≡ b → ltb n m ≡ false
    by false e = e
    by true e = let l = ltb-true n m e in absurd (omega arith)

not_equal : (n m : ℕ) → m < n → (n == m) ≡ false
not_equal n m h = by (n == m) refl
  where
    by : (b : Bool) → (n == m) ≡ b → (n == m) ≡ false
    by false e = e
    by true e = let l = eqb-true n m e in absurd (omega arith)

pub behind_octets : (span d : ℕ) → 65536 ≤ span → Per.constrained true span d
    ≡ only_if (leb d span) (varied Per.longer_number (least_octets d) (λ k. Per.in_octets_of (λ s c. Per.constrained true s c) true span d k))
unfolding Per.constrained Per.constrained_in
behind_octets span d h =
    let a = not_less span 255 (omega arith) in
    let b = not_equal span 255 (omega arith) in
    let c = not_less span 65536 h in
    let f = fewer_octets span in
    let e : by_span (λ s c. Per.constrained_in span true s c) true (ltb span 255) (span == 255) (ltb span 65536) span d
    ≡ varied Per.longer_number (least_octets d) (λ k. Per.in_octets_of (λ s c. Per.constrained_in span true s c) true span d k) = rw (a, b, c) refl in
    let g = pointwise (λ k. same_octets_of (λ s c. Per.constrained_in span true s c) (λ s c. Per.constrained true s c) true span d k
    (same_most span (suc (octet_width span - 1)) true (octet_width span - 1) (k - 1) (omega arith) (omega arith))) in
    ap (λ x. only_if (leb d span) x) (e ∙ ap (λ l. varied Per.longer_number (least_octets d) l) g)

-- ---- the octets are any whose sum is the number
module _ (free : Per.Freedom → Bool) (longer : free Per.longer_number ≡ true) (p : ℕ) (w : List Bool) where
  abbrev told_and_octets : ℕ → ℕ → List ℕ → Per.BitForm
  told_and_octets span k os = both (Per.constrained true (octet_width span - 1) (k - 1)) (Per.at_octet true (exactly (flat_map (binary 8) os)))

  range_sum : (span d : ℕ) → 65536 ≤ span → Reads free (Per.constrained true span d) p w →
      (os : List ℕ) × (0 < length os) × (number_from_digits_after 256 0 os ≡ d) × Reads free (behind_their_number span os) p w
  unfolding Per.in_octets_of Reads
  range_sum span d h r =
      let r' = subst (λ x. Reads free x p w) (behind_octets span d h) r in
      let q = read_if free p w (leb d span) (varied Per.longer_number (least_octets d) (λ k. Per.in_octets_of (λ s c. Per.constrained true s c) true span d k)) r' in
      let k = q.1.0 in
      let t = read_if free p w (leb (least_octets d) k && leb k (octet_width span)) (told_and_octets span k (digits 256 k d)) q.1.2 in
      let c = and_parts (leb (least_octets d) k) (leb k (octet_width span)) t.0 in
      let l : least_octets d ≤ k = leb-true _ _ c.0 in
      let s = digits_sum 256 k d (lit< tt) (least_hold k d l) in
      let e = s.1 in
      let b : leb (length (digits 256 k d)) (octet_width span) ≡ true = subst (λ x. leb x (octet_width span) ≡ true) (sym e) c.1 in
      let both_hold : (list_all is_octet (digits 256 k d) && leb (length (digits 256 k d)) (octet_width span)) ≡ true = two _ _ s.2 b in (
        digits 256 k d,
        omega arith,
        s.0,
        if_read free p w _ (told_and_octets span (length (digits 256 k d)) (digits 256 k d))
            both_hold (subst (λ x. Reads free (told_and_octets span x (digits 256 k d)) p w) (sym e) t.1),
      )
    where
      two : (a b : Bool) → a ≡ true → b ≡ true → (a && b) ≡ true
      two true true e f = refl
      two true false e f = f
      two false b e f = e

  sum_range : (span d : ℕ) → 65536 ≤ span → d ≤ span → (os : List ℕ) → 0 < length os → number_from_digits_after 256 0 os ≡ d →
      Reads free (behind_their_number span os) p w → Reads free (Per.constrained true span d) p w
  unfolding Per.in_octets_of Reads
  sum_range span d h i os j e r =
      let q = read_if free p w (list_all is_octet os && leb (length os) (octet_width span)) (told_and_octets span (length os) os) r in
      let c = and_parts (list_all is_octet os) (leb (length os) (octet_width span)) q.0 in
      let b = digits_back d os c.0 e in
      let l = (fewest_octets d (length os) j).0.1 b.0 in
      let m = le-leb _ _ l in
      let n = c.1 in
      let both_hold : (leb (least_octets d) (length os) && leb (length os) (octet_width span)) ≡ true = rw (m, n) refl in
      let t = if_read free p w _ (told_and_octets span (length os) (digits 256 (length os) d)) both_hold (subst (λ x. Reads free (told_and_octets span (length os) x) p w) (sym b.1) q.1) in
      let v = if_read free p w (leb d span) (varied Per.longer_number (least_octets d)
      (λ k. Per.in_octets_of (λ s c. Per.constrained true s c) true span d k)) (le-leb _ _ i) (length os, inr longer, t) in
      subst (λ x. Reads free x p w) (sym (behind_octets span d h)) v

pub per_ranges : (free : Per.Freedom → Bool) → free Per.longer_number ≡ true → (span d : ℕ) → 65536 ≤ span → d ≤ span →
    IsReadAsAny free (Per.constrained true span d) (behind_their_number span) (λ os. number_from_digits_after 256 0 os ≡ d)
per_ranges free l span d h i p w = (range_sum free l p w span d h, sum_range free l p w span d h i)
