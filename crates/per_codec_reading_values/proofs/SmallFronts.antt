-- Normally small numbers with which the bits begin.
use Rattle.std.proofs.Common.{◌≡◌, ◌⊎◌, inl, inr, ℕ, ◌+◌, ◌^◌, ◌<◌, ◌≤◌, leb, ltb, cond, ◌&&◌, ◌||◌, Bool, true, false, IsTrue, [], ◌∷◌, ◌++◌, refl, ap, sym, ◌∙◌, subst, arith}
use Rattle.std.proofs.lemmas.Bool.{ltb-true, lt-ltb, leb-true, le-leb, and_parts, and_from, false_from_ne_true, false≢true}
use Rattle.std.proofs.Math.Nat.{pow-le-pow_right}
use Rattle.asn1_model.specs.Numbers.{binary}
use Rattle.asn1_model.specs.Form.{exactly, both, only_if}
use Rattle.asn1_model.specs.Per
use Rattle.asn1_laws_fronts.proofs.PerNumbers.{semi_alike}
use Rattle.asn1_laws_fronts.proofs.Units.{small_alike}
use Rattle.per_codec_laws.specs.Takes.{Position, Front}
use Rattle.per_codec_laws.proofs.Fronts.{split, join, if_in, if_out, varied_in, varied_out}
use Rattle.per_codec_laws.proofs.Next.{same_fronts}
use Rattle.per_codec_reading.specs.Fronts.{NoneStands}
use Rattle.per_codec_reading.specs.Lengths.{one_bit, number_within}
use Rattle.per_codec_reading.proofs.Fronts.{or_free, free_or, exactly_in, exactly_out, leads_join}
use Rattle.per_codec_reading_values.specs.Integers.{offset_form, is_offset}
use Rattle.per_codec_reading.proofs.RunFronts.{leads_one}
use Rattle.per_codec_reading_values.specs.Indices.{small_form, added_form}

small_fits : (n : ℕ) → n < 64 → is_offset n ≡ true
small_fits n l = let p : 2 ^ 6 ≤ 2 ^ 128 = pow-le-pow_right {n = 2} (omega arith) {i = 6} {j = 128} (omega arith) in lt-ltb n (2 ^ 128) (omega (arith, p, l))

not_many : (n : ℕ) → n < 64 → leb 64 n ≡ false
not_many n h = false_from_ne_true (leb 64 n) (λ e. let k = leb-true 64 n e in omega (arith, k, h))

module _ (free : Per.Freedom → Bool) where
  pub bit_one : (s t : Bool) (a b c : Position) → Front free (one_bit s) a b → Front free (one_bit t) a c → (s ≡ t) × (b ≡ c)
  bit_one s t a b c f g =
      let q = leads_one free (s ∷ []) (t ∷ []) a b c refl (exactly_out free (s ∷ []) a b f) (exactly_out free (t ∷ []) a c g) in
      let e : s ∷ [] ≡ t ∷ [] = q.0 in
      (cc, q.1)

  module _ (al : Bool) where
    abbrev long_or_short : ℕ → Bool → Per.BitForm
    long_or_short n long = cond long (both (exactly (true ∷ [])) (Per.semi_constrained al n)) (only_if (ltb n 64) (exactly (false ∷ binary 6 n)))

    pub short_small : (n : ℕ) (a m b : Position) → Front free (one_bit false) a m → Front free (number_within 6 63 n) m b → Front free (small_form al n) a b
    unfolding Per.normally_small
    short_small n a m b f g =
        let i = if_out free (leb n 63 && ltb n (2 ^ 6)) (exactly (binary 6 n)) m b g in
        let l : n < 64 = ltb-true n (2 ^ 6) ((and_parts _ _ i.0).1) in
        let h = exactly_in free (false ∷ binary 6 n) a b (leads_join (false ∷ []) (binary 6 n) a m b (exactly_out free (false ∷ []) a m f) (exactly_out free (binary 6 n) m b i.1)) in
        if_in free (is_offset n) _ a b (small_fits n l) (varied_in free (λ long. long_or_short n long) false (inl (sym (not_many n l))) a b (if_in free (ltb n 64) _ a b (lt-ltb n 64 l) h))

    pub long_small : (n : ℕ) (a m b : Position) → (free Per.long_small_number || leb 64 n) ≡ true → Front free (one_bit true) a m → Front free (offset_form al n) m b → Front free (small_form al n) a b
    unfolding Per.normally_small
    long_small n a m b t f g =
        let i = if_out free (is_offset n) (Per.semi_constrained al n) m b g in
        let may : (true ≡ leb 64 n) ⊎ IsTrue (free Per.long_small_number) = elim (or_free _ _ t) [ inl e ↦ inl (sym e) | inr e ↦ inr e ] in
        if_in free (is_offset n) _ a b i.0 (varied_in free (λ long. long_or_short n long) true may a b (join free _ _ a m b f i.1))

    -- what follows the bit that selects the form
    abbrev Behind : Bool → ℕ → Position → Position → Type 0
    Behind true n m b = Front free (offset_form al n) m b
    Behind false n m b = Front free (number_within 6 63 n) m b

    cases_out : (long : Bool) (n : ℕ) (a b : Position) → is_offset n ≡ true → Front free (long_or_short n long) a b → (m : Position) × Front free (one_bit long) a m × Behind long n m b
    cases_out true n a b o f = let s = split free (exactly (true ∷ [])) (Per.semi_constrained al n) a b f in (s.0, s.1, if_in free (is_offset n) (Per.semi_constrained al n) s.0 b o s.2)
    cases_out false n a b o f =
        let i = if_out free (ltb n 64) (exactly (false ∷ binary 6 n)) a b f in
        let l = ltb-true n 64 i.0 in
        let h = exactly_out free (false ∷ binary 6 n) a b i.1 in
        let k = h.1 in
        let m : Position = (a.0 + 1, binary 6 n ++ b.1) in (
          m,
          exactly_in free (false ∷ []) a m (h.0, refl),
          if_in free (leb n 63 && ltb n (2 ^ 6)) (exactly (binary 6 n)) m b
              (and_from _ _ (le-leb n 63 (omega (arith, l))) (lt-ltb n 64 l)) (exactly_in free (binary 6 n) m b (refl, omega (arith, k))),
        )

    small_out : (n : ℕ) (a b : Position) → Front free (small_form al n) a b → (long : Bool) × (m : Position) × Front free (one_bit long) a m ×
        Behind long n m b × ((long ≡ leb 64 n) ⊎ IsTrue (free Per.long_small_number))
    unfolding Per.normally_small
    small_out n a b f =
        let i = if_out free (is_offset n) (Per.normally_small al n) a b f in
        let v = varied_out free (λ long. long_or_short n long) a b i.1 in
        let c = cases_out v.0 n a b i.0 v.2 in
        (v.0, c.0, c.1, c.2, v.1)

    pub no_small_bit : (a : Position) → NoneStands free one_bit a → NoneStands free (small_form al) a
    no_small_bit a n k b f = let s = small_out k a b f in n s.0 s.1 s.2

    pub no_long : (a m : Position) → Front free (one_bit true) a m → NoneStands free (offset_form al) m → NoneStands free (small_form al) a
    no_long a m f n k b g =
        let s = small_out k a b g in
        let q = bit_one true s.0 a m s.1 f s.2 in
        n k b (subst (λ p. Front free (offset_form al k) p b) (sym q.1) (subst (λ v. Behind v k s.1 b) (sym q.0) s.3))

    -- a long form that the reader does not accept
    pub not_long : (n : ℕ) (a m b : Position) → (free Per.long_small_number || leb 64 n) ≡ false → Front free (one_bit true) a m → Front free (offset_form al n) m b → NoneStands free (small_form al) a
    not_long n a m b t f h k c g =
        let s = small_out k a c g in
        let q = bit_one true s.0 a m s.1 f s.2 in
        let o = subst (λ p. Front free (offset_form al k) p c) (sym q.1) (subst (λ v. Behind v k s.1 c) (sym q.0) s.3) in
        let e = (same_fronts free (semi_alike free al k n) m c b (if_out free (is_offset k) (Per.semi_constrained al k) m c o).1 (if_out free (is_offset n) (Per.semi_constrained al n) m b h).1).0 in
        let may : (leb 64 n ≡ true) ⊎ IsTrue (free Per.long_small_number) = elim s.4 [ inl l ↦ inl (ap (leb 64) (sym e) ∙ sym l ∙ sym q.0) | inr l ↦ inr l ] in
        false≢true (sym t ∙ free_or _ _ may)

    pub no_short : (a m : Position) → Front free (one_bit false) a m → NoneStands free (number_within 6 63) m → NoneStands free (small_form al) a
    no_short a m f n k b g =
        let s = small_out k a b g in
        let q = bit_one false s.0 a m s.1 f s.2 in
        n k b (subst (λ p. Front free (number_within 6 63 k) p b) (sym q.1) (subst (λ v. Behind v k s.1 b) (sym q.0) s.3))

    -- ---- the index of an added one
    pub added_read : (count n : ℕ) (a b : Position) → n < count → Front free (small_form al n) a b → Front free (added_form al count n) a b
    added_read count n a b l f = if_in free (ltb n count) _ a b (lt-ltb n count l) (if_out free (is_offset n) (Per.normally_small al n) a b f).1

    pub no_added : (count : ℕ) (a : Position) → count < 2 ^ 64 → NoneStands free (small_form al) a → NoneStands free (added_form al count) a
    no_added count a h n k b f =
        let i = if_out free (ltb k count) (Per.normally_small al k) a b f in
        let l = ltb-true k count i.0 in
        let p : 2 ^ 64 ≤ 2 ^ 128 = pow-le-pow_right {n = 2} (omega arith) {i = 64} {j = 128} (omega arith) in
        n k b (if_in free (is_offset k) (Per.normally_small al k) a b (lt-ltb k (2 ^ 128) (omega (arith, l, p, h))) i.1)

    pub added_past : (count n : ℕ) (a b : Position) → count ≤ n → Front free (small_form al n) a b → NoneStands free (added_form al count) a
    added_past count n a b h f k c g =
        let i = if_out free (is_offset n) (Per.normally_small al n) a b f in
        let j = if_out free (ltb k count) (Per.normally_small al k) a c g in
        let l = ltb-true k count j.0 in
        let e : n ≡ k = (same_fronts free (small_alike free al n k) a b c i.1 j.1).0 in
        absurd (omega (arith, l, h, e))
