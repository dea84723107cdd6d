-- Bits that begin with a number within a bound, or with a constrained whole number.
use Rattle.std.proofs.Common.{◌≡◌, inl, inr, ◌⊎◌, ℕ, zero, suc, ◌+◌, ◌-◌, ◌*◌, ◌/◌, ◌%◌, ◌^◌, ◌<◌, ◌≤◌, ◌==◌, leb, ltb}
use Rattle.std.proofs.Common.{not, ◌&&◌, ◌||◌, Bool, true, false, IsTrue, List, [], ◌∷◌, ◌++◌, append_assoc, length}
use Rattle.std.proofs.Common.{replicate, take, flat_map, refl, ap, sym, ◌∙◌, subst, cond, pow-add, arith}
use Rattle.std.proofs.lemmas.Bool.{lt-ltb, ltb-true, le-leb, leb-true, leb-false, and_parts, and_from, eq-eqb, false≢true, false_from_ne_true, eqb-true}
use Rattle.std.proofs.lemmas.List.{length-replicate, take_at}
use Rattle.std.proofs.lemmas.Nat.{pow_pos}
use Rattle.std.proofs.Math.Nat.{pow-le-pow_right, div-eq_of_lt, div-lt_iff_lt-mul}
use Rattle.asn1_model.specs.Form.{exactly, varied, only_if}
use Rattle.asn1_model.specs.Numbers.{binary, digits, width, octet_width, least_octets}
use Rattle.asn1_model.specs.Schema.{boolean, null}
use Rattle.asn1_model.specs.Value.{truth, nothing}
use Rattle.asn1_model.specs.Per
use Rattle.asn1_values_bits.proofs.Binary.{binary_low, binary_split, binary_zero, length-binary}
use Rattle.asn1_values_natives.proofs.Widths.{Octets, width-bits, octets-least, octet_width-octets, pow256}
use Rattle.asn1_laws_fronts.proofs.PerNumbers.{binary_equal, binary_alike, at_octet_alike}
use Rattle.per_codec_laws.specs.Takes.{Position, Front}
use Rattle.per_codec_laws.proofs.Fronts.{split, join, varied_in, varied_out, if_in, if_out, nothing_front, of_refused}
use Rattle.per_codec_laws.proofs.Next.{same_fronts}
use Rattle.per_codec_reading.specs.Fronts.{Leads, NoneStands, to_octet}
use Rattle.per_codec_reading.specs.Lengths.{number_within, aligned_within, padded_within, one_bit}
use Rattle.per_codec_reading.proofs.Fronts.{or_free, free_or, leads_same, exactly_in, exactly_out, too_short, after_padding, behind_padding, padding_in, aligned_padding}

-- ---- numbers and their digits
digit_bits : (k d : ℕ) → flat_map (binary 8) (digits 256 k d) ≡ binary (8 * k) d
digit_bits zero d = refl
digit_bits (suc k) d =
    let s : 8 + 8 * k ≡ 8 * suc k = omega arith in
    ap (λ l. l ++ flat_map (binary 8) (digits 256 k d)) (binary_low 8 (d / 256 ^ k)) ∙ ap (λ l. binary 8 (d / 256 ^ k) ++ l) (digit_bits k d)
    ∙ ap (λ x. binary 8 (d / x) ++ binary (8 * k) d) (pow256 k) ∙ sym (binary_split 8 (8 * k) d) ∙ ap (λ w. binary w d) s

below_width : (d span : ℕ) → d ≤ span → d < 2 ^ width span
below_width d span h = let b = (width-bits span).below in omega (arith, b)

-- a number of octets holds a number, or need not be fewer
least_fits : (k d : ℕ) → 1 ≤ k → d < 2 ^ (8 * k) → least_octets d ≤ k
least_fits k d h l =
    let m : d < 256 ^ k = rw (pow256 k) l in
    let w = octets-least d k (octet_width d) (octet_width-octets d) m in
    omega arith

fits_octets : (k d : ℕ) → least_octets d ≤ k → d < 2 ^ (8 * k)
fits_octets k d h =
    let w : octet_width d ≤ k = omega arith in
    let p = pow-le-pow_right {n = 256} (omega arith) {i = octet_width d} {j = k} w in
    let b = (octet_width-octets d).below in
    let e = pow256 k in
    omega arith

-- a number of k + 1 octets needs them all if some digit stands before the last k octets
no_front : (k d : ℕ) → d / 2 ^ (8 * k) ≡ 0 → d < 2 ^ (8 * k)
no_front k d e =
    let h : d / 2 ^ (8 * k) < 1 = omega arith in
    let l = (div-lt_iff_lt-mul {k = 2 ^ (8 * k)} {x = d} {y = 1} (pow_pos (8 * k))).0 h in
    omega arith

pub needs_all : (k d : ℕ) → 0 < k → d < 2 ^ (8 * (k + 1)) → not (d / 2 ^ (8 * k) == 0) ≡ (least_octets d == k + 1)
needs_all k d h l = go (leb (least_octets d) k) refl
  where
    go : (t : Bool) → leb (least_octets d) k ≡ t → not (d / 2 ^ (8 * k) == 0) ≡ (least_octets d == k + 1)
    go true e =
        let w = leb-true (least_octets d) k e in
        let n : (least_octets d == k + 1) ≡ false = false_from_ne_true (least_octets d == k + 1) (λ q. let r = eqb-true (least_octets d) (k + 1) q in omega arith) in
        ap (λ x. not (x == 0)) (div-eq_of_lt (fits_octets k d w)) ∙ sym n
    go false e =
        let w = leb-false (least_octets d) k e in
        let m = least_fits (k + 1) d (omega arith) l in
        let n : (d / 2 ^ (8 * k) == 0) ≡ false = false_from_ne_true (d / 2 ^ (8 * k) == 0) (λ q. let r = least_fits k d h (no_front k d (eqb-true (d / 2 ^ (8 * k)) 0 q)) in omega arith) in
        ap not n ∙ sym (eq-eqb (least_octets d) (k + 1) (omega arith))

pub needs_one : (d : ℕ) → d < 2 ^ 8 → true ≡ (least_octets d == 1)
needs_one d l = let m = least_fits 1 d (omega arith) l in sym (eq-eqb (least_octets d) 1 (omega arith))

pub some_octets : (span : ℕ) → 65536 ≤ span → 3 ≤ octet_width span
some_octets span h = three (octet_width span) (octet_width-octets span)
  where
    three : (w : ℕ) → Octets span w → 3 ≤ w
    three zero b = let l = b.below in omega arith
    three (suc zero) b = let l = b.below in omega arith
    three (suc (suc zero)) b = let l = b.below in omega arith
    three (suc (suc (suc w))) b = omega arith

module _ (free : Per.Freedom → Bool) where
  -- ---- a number in a number of bits
  pub within_read : (w most n : ℕ) (a b : Position) → n ≤ most → n < 2 ^ w → Leads (binary w n) a b → Front free (number_within w most n) a b
  within_read w most n a b l h f = if_in free (leb n most && ltb n (2 ^ w)) _ a b (and_from _ _ (le-leb n most l) (lt-ltb n (2 ^ w) h)) (exactly_in free (binary w n) a b f)

  -- its parts
  pub record Within (w most n : ℕ) (a b : Position) : Type 0 where
    pub bound : n ≤ most
    pub fits : n < 2 ^ w
    pub stands : Front free (exactly (binary w n)) a b

  pub within_out : (w most n : ℕ) (a b : Position) → Front free (number_within w most n) a b → Within w most n a b
  within_out w most n a b f =
      let i = if_out free (leb n most && ltb n (2 ^ w)) _ a b f in
      let p = and_parts _ _ i.0 in
      record { bound = leb-true n most p.0; fits = ltb-true n (2 ^ w) p.1; stands = i.1 }

  pub within_short : (w most : ℕ) (a : Position) → length a.1 < w → NoneStands free (number_within w most) a
  within_short w most a l n b f =
      let i = within_out w most n a b f in
      let e = length-binary w n in
      too_short free (binary w n) a b (omega arith) i.stands

  pub within_above : (w most n : ℕ) (a b : Position) → most < n → n < 2 ^ w → Leads (binary w n) a b → NoneStands free (number_within w most) a
  within_above w most n a b l h f m c g =
      let i = within_out w most m a c g in
      let e : m ≡ n = binary_equal w m n i.fits h (leads_same (binary w m) (binary w n) a c b (length-binary w m ∙ sym (length-binary w n)) (exactly_out free (binary w m) a c i.stands) f) in
      let u = i.bound in
      omega arith

  -- ---- after padding
  pub condition_in : (al t : Bool) (x : Per.BitForm) (a b : Position) → t ≡ true → Front free (Per.at_octet al x) a b → Front free (Per.at_octet al (only_if t x)) a b
  condition_in al true x a b e f = f
  condition_in al false x a b e f = absurd (false≢true e)

  pub condition_out : (al t : Bool) (x : Per.BitForm) (a b : Position) → Front free (Per.at_octet al (only_if t x)) a b → (t ≡ true) × Front free (Per.at_octet al x) a b
  unfolding Per.at_octet
  condition_out al true x a b f = (refl, f)
  condition_out false false x a b f = if_out free false x a b f
  condition_out true false x a b f = let q = split free to_octet (only_if false x) a b f in let i = if_out free false x q.0 b q.2 in absurd (false≢true i.0)

  pub record AlignedWithin (al : Bool) (w most n : ℕ) (a b : Position) : Type 0 where
    pub bound : n ≤ most
    pub fits : n < 2 ^ w
    pub stands : Front free (Per.at_octet al (exactly (binary w n))) a b

  pub aligned_in : (al : Bool) (w most n : ℕ) (a b : Position) → AlignedWithin al w most n a b → Front free (aligned_within al w most n) a b
  aligned_in al w most n a b i = condition_in al (leb n most && ltb n (2 ^ w)) _ a b (and_from _ _ (le-leb n most i.bound) (lt-ltb n (2 ^ w) i.fits)) i.stands

  pub aligned_out : (al : Bool) (w most n : ℕ) (a b : Position) → Front free (aligned_within al w most n) a b → AlignedWithin al w most n a b
  aligned_out al w most n a b f =
      let i = condition_out al (leb n most && ltb n (2 ^ w)) _ a b f in
      let p = and_parts _ _ i.0 in
      record { bound = leb-true n most p.0; fits = ltb-true n (2 ^ w) p.1; stands = i.1 }

  pub aligned_read : (al : Bool) (w most n : ℕ) (a mid b : Position) → Front free (Per.at_octet al (exactly [])) a mid →
      Front free (number_within w most n) mid b → Front free (aligned_within al w most n) a b
  aligned_read al w most n a mid b f g = after_padding free al _ a mid b f g

  pub none_aligned : (al : Bool) (w most : ℕ) (a mid : Position) → Front free (Per.at_octet al (exactly [])) a mid →
      NoneStands free (number_within w most) mid → NoneStands free (aligned_within al w most) a
  none_aligned al w most a mid f n d b g = n d b (behind_padding free al _ a mid b f g)

  pub none_padded : (al : Bool) (w most : ℕ) (a : Position) → NoneStands free (Per.at_octet al) a → NoneStands free (aligned_within al w most) a
  none_padded al w most a n d b g = n (number_within w most d) b g

  pub aligned_fits : (al : Bool) (w most n : ℕ) (a b : Position) → Front free (aligned_within al w most n) a b → n < 2 ^ w
  aligned_fits al w most n a b f = (aligned_out al w most n a b f).fits

  -- the number is the one that was read
  counts_same : (w most k j : ℕ) (a b c : Position) → Front free (number_within w most k) a b → Front free (number_within w most j) a c → (k ≡ j) × (b ≡ c)
  counts_same w most k j a b c f g =
      let i = within_out w most k a b f in
      let l = within_out w most j a c g in
      same_fronts free (binary_alike free w k j i.fits l.fits) a b c i.stands l.stands

  -- ---- before padding
  pub padded_read : (w most n : ℕ) (a mid b : Position) → Front free (number_within w most n) a mid → Front free to_octet mid b → Front free (padded_within w most n) a b
  padded_read w most n a mid b f g = join free (number_within w most n) to_octet a mid b f g

  pub none_numbered : (w most : ℕ) (a : Position) → NoneStands free (number_within w most) a → NoneStands free (padded_within w most) a
  none_numbered w most a n d b f = let q = split free (number_within w most d) to_octet a b f in n d q.0 q.1

  pub none_ended : (w most n : ℕ) (a mid : Position) → Front free (number_within w most n) a mid → NoneStands free (λ (_ : Unit {0}). to_octet) mid → NoneStands free (padded_within w most) a
  none_ended w most n a mid f none d b g =
      let q = split free (number_within w most d) to_octet a b g in
      let s = counts_same w most d n a q.0 mid q.1 f in
      none tt b (subst (λ m. Front free to_octet m b) s.1 q.2)

  -- a number and the zero padding behind it, read as one number
  pub plain_read : (w p most n : ℕ) (a b : Position) (bs : List Bool) → p ≡ Per.missing (a.0 + w) → binary (w + p) n ≡ take (w + p) a.1 →
      n < 2 ^ (w + p) → length bs ≡ w + p → Leads bs a b → n / 2 ^ p ≤ most → n % 2 ^ p ≡ 0 → Front free (padded_within w most (n / 2 ^ p)) a b
  plain_read w p most n a b bs e d s l h u v =
      let zeros : List Bool = replicate p false in
      let k : ℕ = n / 2 ^ p in
      let mid : Position = (a.0 + w, zeros ++ b.1) in
      let taken : take (w + p) a.1 ≡ bs = ap (take (w + p)) (sym h.0) ∙ take_at bs b.1 (w + p) l in
      let none : binary p n ≡ zeros = sym (binary_low p n) ∙ ap (binary p) v ∙ binary_zero p in
      let parts : bs ≡ binary w k ++ zeros = sym taken ∙ sym d ∙ binary_split w p n ∙ ap (λ x. binary w k ++ x) none in
      let long : length (binary w k) ≡ w = length-binary w k in
      let pad : length zeros ≡ p = length-replicate p false in
      let first : Leads (binary w k) a mid = (sym (append_assoc (binary w k) zeros b.1) ∙ ap (λ x. x ++ b.1) (sym parts) ∙ h.0, ap (λ x. a.0 + x) long) in
      let end = h.1 in
      let second : Leads zeros mid b = (refl, omega arith) in
      let fits : k < 2 ^ w = (div-lt_iff_lt-mul {k = 2 ^ p} {x = n} {y = 2 ^ w} (pow_pos p)).1 (subst (λ x. n < x) (pow-add 2 w p) s) in
      padded_read w most k a mid b (within_read w most k a mid u fits first) (padding_in free zeros mid b (inl (sym (ap (λ x. replicate x false) pad))) (pad ∙ e) second)

  -- ---- a constrained whole number
  abbrev by_span : (ℕ → ℕ → Per.BitForm) → Bool → Bool → Bool → Bool → ℕ → ℕ → Per.BitForm
  by_span whole al s t u span d = only_if (leb d span)
      (cond s (exactly (binary (width span) d))
      (cond t (Per.at_octet al (exactly (binary 8 d)))
      (cond u (Per.at_octet al (exactly (binary 16 d)))
      (varied Per.longer_number (least_octets d) (λ k. Per.in_octets_of whole al span d k)))))

  -- a number in the bit-field case
  few_in : (whole : ℕ → ℕ → Per.BitForm) (al s t u : Bool) (span d : ℕ) (a b : Position) → s ≡ true →
      Front free (number_within (width span) span d) a b → Front free (by_span whole al s t u span d) a b
  few_in whole al true t u span d a b e f = let i = within_out (width span) span d a b f in if_in free (leb d span) _ a b (le-leb d span i.bound) i.stands
  few_in whole al false t u span d a b e f = absurd (false≢true e)

  few_out : (whole : ℕ → ℕ → Per.BitForm) (al s t u : Bool) (span d : ℕ) (a b : Position) → s ≡ true →
      Front free (by_span whole al s t u span d) a b → Front free (number_within (width span) span d) a b
  few_out whole al true t u span d a b e f =
      let i = if_out free (leb d span) _ a b f in
      let l = leb-true d span i.0 in
      if_in free (leb d span && ltb d (2 ^ width span)) _ a b (and_from _ _ i.0 (lt-ltb d (2 ^ width span) (below_width d span l))) i.1
  few_out whole al false t u span d a b e f = absurd (false≢true e)

  one_in : (whole : ℕ → ℕ → Per.BitForm) (al s t u : Bool) (span d : ℕ) (a b : Position) → s ≡ false → t ≡ true →
      Front free (aligned_within al 8 span d) a b → Front free (by_span whole al s t u span d) a b
  one_in whole al false true u span d a b e h f = let i = aligned_out al 8 span d a b f in if_in free (leb d span) _ a b (le-leb d span i.bound) i.stands
  one_in whole al true t u span d a b e h f = absurd (false≢true (sym e))
  one_in whole al false false u span d a b e h f = absurd (false≢true h)

  one_out : (whole : ℕ → ℕ → Per.BitForm) (al s t u : Bool) (span d : ℕ) (a b : Position) → s ≡ false → t ≡ true → span < 256 →
      Front free (by_span whole al s t u span d) a b → Front free (aligned_within al 8 span d) a b
  one_out whole al false true u span d a b e h l f =
      let i = if_out free (leb d span) _ a b f in
      let m = leb-true d span i.0 in
      aligned_in al 8 span d a b (record { bound = m; fits = omega arith; stands = i.1 })
  one_out whole al true t u span d a b e h l f = absurd (false≢true (sym e))
  one_out whole al false false u span d a b e h l f = absurd (false≢true h)

  two_in : (whole : ℕ → ℕ → Per.BitForm) (al s t u : Bool) (span d : ℕ) (a b : Position) → s ≡ false → t ≡ false → u ≡ true →
      Front free (aligned_within al 16 span d) a b → Front free (by_span whole al s t u span d) a b
  two_in whole al false false true span d a b e h k f = let i = aligned_out al 16 span d a b f in if_in free (leb d span) _ a b (le-leb d span i.bound) i.stands
  two_in whole al true t u span d a b e h k f = absurd (false≢true (sym e))
  two_in whole al false true u span d a b e h k f = absurd (false≢true (sym h))
  two_in whole al false false false span d a b e h k f = absurd (false≢true k)

  two_out : (whole : ℕ → ℕ → Per.BitForm) (al s t u : Bool) (span d : ℕ) (a b : Position) → s ≡ false → t ≡ false → u ≡ true → span < 65536 →
      Front free (by_span whole al s t u span d) a b → Front free (aligned_within al 16 span d) a b
  two_out whole al false false true span d a b e h k l f =
      let i = if_out free (leb d span) _ a b f in
      let m = leb-true d span i.0 in
      aligned_in al 16 span d a b (record { bound = m; fits = omega arith; stands = i.1 })
  two_out whole al true t u span d a b e h k l f = absurd (false≢true (sym e))
  two_out whole al false true u span d a b e h k l f = absurd (false≢true (sym h))
  two_out whole al false false false span d a b e h k l f = absurd (false≢true k)

  -- octets after their count, minus one
  pub record Octeted (al : Bool) (span d : ℕ) (a b : Position) : Type 0 where
    pub further : ℕ
    pub may : (further + 1 ≡ least_octets d) ⊎ IsTrue (free Per.longer_number)
    pub behind : Position
    pub number : Front free (number_within (width (octet_width span - 1)) (octet_width span - 1) further) a behind
    pub octets : Front free (aligned_within al (8 * (further + 1)) span d) behind b

  many_in : (whole : ℕ → ℕ → Per.BitForm) (al s t u : Bool) (span d k : ℕ) (a mid b : Position) → s ≡ false → t ≡ false → u ≡ false →
      (k + 1 ≡ least_octets d) ⊎ IsTrue (free Per.longer_number) → k + 1 ≤ octet_width span
      → Front free (whole (octet_width span - 1) k) a mid → Front free (aligned_within al (8 * (k + 1)) span d) mid b → Front free (by_span whole al s t u span d) a b
  unfolding Per.in_octets_of
  many_in whole al false false false span d k a mid b e h g t l f o =
      let i = aligned_out al (8 * (k + 1)) span d mid b o in
      let m = least_fits (k + 1) d (omega arith) i.fits in
      let s : k + 1 - 1 ≡ k = omega arith in
      if_in free (leb d span) _ a b (le-leb d span i.bound) (varied_in free (λ n. Per.in_octets_of whole al span d n) (k + 1) t a b
      (if_in free (leb (least_octets d) (k + 1) && leb (k + 1) (octet_width span)) _ a b (and_from _ _ (le-leb (least_octets d) (k + 1) m) (le-leb (k + 1) (octet_width span) l))
      (join free _ _ a mid b (subst (λ x. Front free (whole (octet_width span - 1) x) a mid) (sym s) f)
      (subst (λ w. Front free (Per.at_octet al (exactly w)) mid b) (sym (digit_bits (k + 1) d)) i.stands))))
  many_in whole al true t u span d k a mid b e h g x l f o = absurd (false≢true (sym e))
  many_in whole al false true u span d k a mid b e h g x l f o = absurd (false≢true (sym h))
  many_in whole al false false true span d k a mid b e h g x l f o = absurd (false≢true (sym g))

  many_out : (whole : ℕ → ℕ → Per.BitForm) (al s t u : Bool) (span d : ℕ) (a b : Position) → s ≡ false → t ≡ false → u ≡ false →
      ((x : ℕ) (m : Position) → Front free (whole (octet_width span - 1) x) a m → Front free (number_within (width (octet_width span - 1)) (octet_width span - 1) x) a m)
      → Front free (by_span whole al s t u span d) a b → Octeted al span d a b
  unfolding Per.in_octets_of
  many_out whole al false false false span d a b e h g n f =
      let i = if_out free (leb d span) _ a b f in
      let v = varied_out free (λ k. Per.in_octets_of whole al span d k) a b i.1 in
      let k = v.0 in
      let j = if_out free (leb (least_octets d) k && leb k (octet_width span)) _ a b v.2 in
      let p = and_parts _ _ j.0 in
      let m = leb-true (least_octets d) k p.0 in
      let s : k - 1 + 1 ≡ k = omega arith in
      let q = split free _ _ a b j.1 in
      let o : Front free (Per.at_octet al (exactly (binary (8 * (k - 1 + 1)) d))) q.0 b =
      subst (λ x. Front free (Per.at_octet al (exactly (binary (8 * x) d))) q.0 b) (sym s) (subst (λ w. Front free (Per.at_octet al (exactly w)) q.0 b) (digit_bits k d) q.2) in
      let z : d < 2 ^ (8 * (k - 1 + 1)) = subst (λ x. d < 2 ^ (8 * x)) (sym s) (fits_octets k d m) in
      record {
        further = k - 1;
        may = elim v.1 [ inl x ↦ inl (s ∙ x) | inr x ↦ inr x ];
        behind = q.0;
        number = n (k - 1) q.0 q.1;
        octets =
            aligned_in al (8 * (k - 1 + 1)) span d q.0 b (record { bound = leb-true d span i.0; fits = z; stands = o });
      }
  many_out whole al true t u span d a b e h g n f = absurd (false≢true (sym e))
  many_out whole al false true u span d a b e h g n f = absurd (false≢true (sym h))
  many_out whole al false false true span d a b e h g n f = absurd (false≢true (sym g))

  -- ---- the conditions
  few : (al : Bool) (span : ℕ) → (al ≡ false) ⊎ (span < 255) → (not al || ltb span 255) ≡ true
  few false span h = refl
  few true span (inl h) = absurd (false≢true (sym h))
  few true span (inr h) = lt-ltb span 255 h

  not_few : (span : ℕ) → 255 ≤ span → (not true || ltb span 255) ≡ false
  not_few span h = false_from_ne_true (ltb span 255) (λ e. let l = ltb-true span 255 e in omega arith)

  not_256 : (span : ℕ) → 256 ≤ span → (span == 255) ≡ false
  not_256 span h = false_from_ne_true (span == 255) (λ e. let l = eqb-true span 255 e in omega arith)

  large : (span : ℕ) → 65536 ≤ span → ltb span 65536 ≡ false
  large span h = false_from_ne_true (ltb span 65536) (λ e. let l = ltb-true span 65536 e in omega arith)

  -- ---- what read_constrained finds
  pub few_read : (al : Bool) (span d : ℕ) (a b : Position) → (al ≡ false) ⊎ (span < 255) → Front free (number_within (width span) span d) a b → Front free (Per.constrained al span d) a b
  unfolding Per.constrained Per.constrained_in
  few_read al span d a b h f = few_in (λ s c. Per.constrained_in span al s c) al _ _ _ span d a b (few al span h) f

  pub few_missed : (al : Bool) (span : ℕ) (a : Position) → (al ≡ false) ⊎ (span < 255) → NoneStands free (number_within (width span) span) a → NoneStands free (Per.constrained al span) a
  unfolding Per.constrained Per.constrained_in
  few_missed al span a h n d b f = n d b (few_out (λ s c. Per.constrained_in span al s c) al _ _ _ span d a b (few al span h) f)

  pub one_read : (al : Bool) (span d : ℕ) (a b : Position) → true ≡ al → span ≡ 255 → Front free (aligned_within al 8 span d) a b → Front free (Per.constrained al span d) a b
  unfolding Per.constrained Per.constrained_in
  one_read true span d a b e h f = one_in (λ s c. Per.constrained_in span true s c) true _ _ _ span d a b (not_few span (omega arith)) (eq-eqb span 255 h) f
  one_read false span d a b e h f = absurd (false≢true (sym e))

  pub one_missed : (al : Bool) (span : ℕ) (a : Position) → true ≡ al → span ≡ 255 → NoneStands free (aligned_within al 8 span) a → NoneStands free (Per.constrained al span) a
  unfolding Per.constrained Per.constrained_in
  one_missed false span a e h n d b f = absurd (false≢true (sym e))
  one_missed true span a e h n d b f = n d b (one_out (λ s c. Per.constrained_in span true s c) true _ _ _ span d a b (not_few span (omega arith)) (eq-eqb span 255 h) (omega arith) f)

  pub two_read : (al : Bool) (span d : ℕ) (a b : Position) → true ≡ al → 256 ≤ span → span < 65536 → Front free (aligned_within al 16 span d) a b → Front free (Per.constrained al span d) a b
  unfolding Per.constrained Per.constrained_in
  two_read false span d a b e h l f = absurd (false≢true (sym e))
  two_read true span d a b e h l f = two_in (λ s c. Per.constrained_in span true s c) true _ _ _ span d a b (not_few span (omega arith)) (not_256 span h) (lt-ltb span 65536 l) f

  pub two_missed : (al : Bool) (span : ℕ) (a : Position) → true ≡ al → 256 ≤ span → span < 65536 → NoneStands free (aligned_within al 16 span) a → NoneStands free (Per.constrained al span) a
  unfolding Per.constrained Per.constrained_in
  two_missed false span a e h l n d b f = absurd (false≢true (sym e))
  two_missed true span a e h l n d b f = n d b (two_out (λ s c. Per.constrained_in span true s c) true _ _ _ span d a b (not_few span (omega arith)) (not_256 span h) (lt-ltb span 65536 l) l f)

  -- the count of octets has a small range
  whole_in : (most n k : ℕ) (a b : Position) → 1 ≤ most → n < 255 → Front free (number_within (width n) n k) a b → Front free (Per.constrained_in most true n k) a b
  unfolding Per.constrained_in
  whole_in zero n k a b h l f = absurd (omega arith)
  whole_in (suc most) n k a b h l f = few_in (λ s c. Per.constrained_in most true s c) true _ _ _ n k a b (few true n (inr l)) f

  whole_out : (most n k : ℕ) (a b : Position) → 1 ≤ most → n < 255 → Front free (Per.constrained_in most true n k) a b → Front free (number_within (width n) n k) a b
  unfolding Per.constrained_in
  whole_out zero n k a b h l f = absurd (omega arith)
  whole_out (suc most) n k a b h l f = few_out (λ s c. Per.constrained_in most true s c) true _ _ _ n k a b (few true n (inr l)) f

  pub many_read : (span d k : ℕ) (a mid b : Position) → (k + 1 ≡ least_octets d) ⊎ IsTrue (free Per.longer_number) → 65536 ≤ span →
      octet_width span ≤ 16 → Front free (number_within (width (octet_width span - 1)) (octet_width span - 1) k) a mid →
      Front free (aligned_within true (8 * (k + 1)) span d) mid b → Front free (Per.constrained true span d) a b
  unfolding Per.constrained Per.constrained_in
  many_read span d k a mid b t h w f o =
      let n = some_octets span h in
      let u = (within_out (width (octet_width span - 1)) (octet_width span - 1) k a mid f).bound in
      many_in (λ s c. Per.constrained_in span true s c) true _ _ _ span d k a mid b (not_few span (omega arith)) (not_256 span (omega arith))
      (large span h) t (omega arith) (whole_in span (octet_width span - 1) k a mid (omega arith) (omega arith) f) o

  pub many_told : (span d : ℕ) (a b : Position) → 65536 ≤ span → octet_width span ≤ 16 → Front free (Per.constrained true span d) a b → Octeted true span d a b
  unfolding Per.constrained Per.constrained_in
  many_told span d a b h w f = many_out (λ s c. Per.constrained_in span true s c) true _ _ _ span d a b (not_few span (omega arith))
      (not_256 span (omega arith)) (large span h) (λ x m g. whole_out span (octet_width span - 1) x a m (omega arith) (omega arith) g) f

  pub no_octets : (span k : ℕ) (a mid : Position) → 65536 ≤ span → octet_width span ≤ 16 →
      Front free (number_within (width (octet_width span - 1)) (octet_width span - 1) k) a mid →
      NoneStands free (aligned_within true (8 * (k + 1)) span) mid → NoneStands free (Per.constrained true span) a
  no_octets span k a mid h w f n d b g =
      let o = many_told span d a b h w g in
      let s = counts_same (width (octet_width span - 1)) (octet_width span - 1) o.further k a o.behind mid o.number f in
      n d b (subst (λ x. Front free (aligned_within true (8 * (x + 1)) span d) mid b) s.0 (subst (λ m. Front free (aligned_within true (8 * (o.further + 1)) span d) m b) s.1 o.octets))

  -- ---- what read_octets_within finds, with counts that are machine numbers
  count_form : (span o w k : ℕ) (a b : Position) → o ≡ octet_width span → w ≡ width (o - 1) → Front free (number_within w (o - 1) k) a b →
      Front free (number_within (width (octet_width span - 1)) (octet_width span - 1) k) a b
  count_form span o w k a b e f g = subst (λ n. Front free (number_within (width (n - 1)) (n - 1) k) a b) e (subst (λ v. Front free (number_within v (o - 1) k) a b) f g)

  number_back : (span o w k : ℕ) (a b : Position) → o ≡ octet_width span → w ≡ width (o - 1) →
      Front free (number_within (width (octet_width span - 1)) (octet_width span - 1) k) a b → Front free (number_within w (o - 1) k) a b
  number_back span o w k a b e f g = subst (λ v. Front free (number_within v (o - 1) k) a b) (sym f) (subst (λ n. Front free (number_within (width (n - 1)) (n - 1) k) a b) (sym e) g)

  pub octets_read : (al : Bool) (span o w k d : ℕ) (a mid b : Position) → (free Per.longer_number || (least_octets d == k + 1)) ≡ true → al ≡ true →
      65536 ≤ span → o ≤ 16 → o ≡ octet_width span → w ≡ width (o - 1)
      → Front free (number_within w (o - 1) k) a mid → Front free (aligned_within al (8 * (k + 1)) span d) mid b → Front free (Per.constrained true span d) a b
  octets_read al span o w k d a mid b t e h u f g x y = many_read span d k a mid b
      (elim (or_free _ _ t) [ inl i ↦ inl (sym (eqb-true (least_octets d) (k + 1) i)) | inr i ↦ inr i ]) h (subst (λ n. n ≤ 16) f u)
      (count_form span o w k a mid f g x) (subst (λ c. Front free (aligned_within c (8 * (k + 1)) span d) mid b) e y)

  -- octets that the reader does not accept
  pub octets_refused : (al : Bool) (span o w k d : ℕ) (a mid b : Position) → (free Per.longer_number || (least_octets d == k + 1)) ≡ false →
      al ≡ true → 65536 ≤ span → o ≤ 16 → o ≡ octet_width span → w ≡ width (o - 1)
      → Front free (number_within w (o - 1) k) a mid → Front free (aligned_within al (8 * (k + 1)) span d) mid b → NoneStands free (Per.constrained true span) a
  octets_refused al span o w k d a mid b t e h u f g x y n c z =
      let v = subst (λ i. i ≤ 16) f u in
      let p = many_told span n a c h v z in
      let s = counts_same (width (octet_width span - 1)) (octet_width span - 1) p.further k a p.behind mid p.number (count_form span o w k a mid f g x) in
      let q = subst (λ j. Front free (aligned_within true (8 * (j + 1)) span n) mid c) s.0 (subst (λ m. Front free (aligned_within true (8 * (p.further + 1)) span n) m c) s.1 p.octets) in
      let i = aligned_out true (8 * (k + 1)) span n mid c q in
      let j = aligned_out true (8 * (k + 1)) span d mid b (subst (λ l. Front free (aligned_within l (8 * (k + 1)) span d) mid b) e y) in
      let r = (same_fronts free (at_octet_alike free true (binary_alike free (8 * (k + 1)) n d i.fits j.fits)) mid c b i.stands j.stands).0 in
      let may : ((least_octets d == k + 1) ≡ true) ⊎ IsTrue (free Per.longer_number) =
      elim p.may [ inl l ↦ inl (eq-eqb _ _ (ap least_octets (sym r) ∙ sym l ∙ ap (λ m. m + 1) s.0)) | inr l ↦ inr l ] in
      false≢true (sym t ∙ free_or _ _ may)

  pub octets_missed : (al : Bool) (span o w k : ℕ) (a mid : Position) → al ≡ true → 65536 ≤ span → o ≤ 16 → o ≡ octet_width span → w ≡ width (o - 1)
      → Front free (number_within w (o - 1) k) a mid → NoneStands free (aligned_within al (8 * (k + 1)) span) mid → NoneStands free (Per.constrained true span) a
  octets_missed al span o w k a mid e h u f g x n = no_octets span k a mid h (subst (λ n. n ≤ 16) f u) (count_form span o w k a mid f g x)
      (subst (λ c. NoneStands free (aligned_within c (8 * (k + 1)) span) mid) e n)

  -- the same, with the padding after the count
  pub padded_octets : (span o w k d : ℕ) (a m b : Position) → (free Per.longer_number || (least_octets d == k + 1)) ≡ true → 65536 ≤ span → o ≤ 16 → o ≡ octet_width span → w ≡ width (o - 1)
      → Front free (padded_within w (o - 1) k) a m → Front free (number_within (8 * (k + 1)) span d) m b → Front free (Per.constrained true span d) a b
  padded_octets span o w k d a m b t h u f g x y =
      let q = split free (number_within w (o - 1) k) to_octet a m x in
      octets_read true span o w k d a q.0 b t refl h u f g q.1 (aligned_read true (8 * (k + 1)) span d q.0 m b (aligned_padding free q.0 m q.2) y)

  pub padded_refused : (span o w k d : ℕ) (a m b : Position) → (free Per.longer_number || (least_octets d == k + 1)) ≡ false → 65536 ≤ span → o ≤ 16 → o ≡ octet_width span → w ≡ width (o - 1)
      → Front free (padded_within w (o - 1) k) a m → Front free (number_within (8 * (k + 1)) span d) m b → NoneStands free (Per.constrained true span) a
  padded_refused span o w k d a m b t h u f g x y =
      let q = split free (number_within w (o - 1) k) to_octet a m x in
      octets_refused true span o w k d a q.0 b t refl h u f g q.1 (aligned_read true (8 * (k + 1)) span d q.0 m b (aligned_padding free q.0 m q.2) y)

  pub padded_missed : (span o w k : ℕ) (a m : Position) → 65536 ≤ span → o ≤ 16 → o ≡ octet_width span → w ≡ width (o - 1)
      → Front free (padded_within w (o - 1) k) a m → NoneStands free (number_within (8 * (k + 1)) span) m → NoneStands free (Per.constrained true span) a
  padded_missed span o w k a m h u f g x n =
      let q = split free (number_within w (o - 1) k) to_octet a m x in
      octets_missed true span o w k a q.0 refl h u f g q.1 (none_aligned true (8 * (k + 1)) span q.0 m (aligned_padding free q.0 m q.2) n)

  pub count_missed : (span o w : ℕ) (a : Position) → 65536 ≤ span → o ≤ 16 → o ≡ octet_width span → w ≡ width (o - 1) →
      NoneStands free (padded_within w (o - 1)) a → NoneStands free (Per.constrained true span) a
  unfolding Per.at_octet
  count_missed span o w a h u f g n d b x =
      let c = many_told span d a b h (subst (λ i. i ≤ 16) f u) x in
      let q = split free to_octet (number_within (8 * (c.further + 1)) span d) c.behind b c.octets in
      let r = number_back span o w c.further a c.behind f g c.number in
      n c.further q.0 (padded_read w (o - 1) c.further a c.behind q.0 r q.1)

  -- ---- single bits
  pub bit_read : (v : Bool) (a b : Position) → Leads (v ∷ []) a b → Front free (one_bit v) a b
  bit_read v a b h = exactly_in free (v ∷ []) a b h

  pub no_bit : (a : Position) → a.1 ≡ [] → NoneStands free one_bit a
  no_bit a e v b f = let l = ap length e in too_short free (v ∷ []) a b (omega (arith, l)) f

  pub truth_stands : (al v : Bool) (a b : Position) → Front free (one_bit v) a b → Front free (Per.form al boolean (truth v)) a b
  unfolding Per.form
  truth_stands al v a b f = f

  pub no_truth : (al : Bool) (a : Position) → NoneStands free one_bit a → NoneStands free (Per.form al boolean) a
  unfolding Per.form
  no_truth al a n (truth v) b f = n v b f
  no_truth al a n v b f = absurd (of_refused free a b f)

  pub nothing_stands : (al : Bool) (a : Position) → Front free (Per.form al null nothing) a a
  unfolding Per.form
  nothing_stands al a = nothing_front free a
