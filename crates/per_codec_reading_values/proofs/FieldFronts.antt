-- Bits with which an encoding begins and that are taken as a whole.
use Rattle.std.proofs.Common.{◌≡◌, ◌⊎◌, inl, inr, ℕ, ◌+◌, ◌-◌, ◌*◌, ◌/◌, ◌^◌, ◌<◌, ◌==◌, leb, ltb, cond, not, ◌&&◌}
use Rattle.std.proofs.Common.{◌||◌, Bool, true, false, IsTrue, List, [], ◌∷◌, ◌++◌, length, refl, ap, sym, ◌∙◌, subst}
use Rattle.std.proofs.Common.{length-append, arith}
use Rattle.std.proofs.lemmas.Bool.{leb-true, le-leb, lt-ltb, eqb-true, eq-eqb, and_parts, and_from, false≢true}
use Rattle.asn1_model.specs.Numbers.{binary, octet_bits, packed}
use Rattle.asn1_model.specs.Strings.{is_octet}
use Rattle.std.specs.List.{list_all}
use Rattle.asn1_model.specs.Form.{exactly, both, only_if, joined}
use Rattle.asn1_model.specs.Per
use Rattle.asn1_laws_values.proofs.Octets.{packed_back, packed_octets}
use Rattle.asn1_laws_fronts.proofs.PerNumbers.{length_of_map, binary_equal}
use Rattle.per_codec_laws.specs.Takes.{Position, Front}
use Rattle.per_codec_laws.proofs.Fronts.{split, join, if_in, if_out, varied_in, varied_out}
use Rattle.per_codec_reading.specs.Fronts.{Leads, NoneStands}
use Rattle.per_codec_reading.specs.Lengths.{one_bit, number_within}
use Rattle.per_codec_reading.proofs.Fronts.{or_free, free_or, exactly_in, exactly_out, too_short, leads_join}
use Rattle.per_codec_reading.proofs.RunsOne.{counted_one}
use Rattle.per_codec_reading.proofs.NumberFronts.{within_out}
use Rattle.per_codec_reading.specs.Units.{Units, units_of, counted_units}
use Rattle.per_codec_reading.proofs.OctetFronts.{counted_size, octets_front, length-octet_bits, octet_pieces}
use Rattle.per_codec_reading.proofs.RunFronts.{leads_one}
use Rattle.per_codec_reading.proofs.UnitFronts.{units_in, units_out}
use Rattle.per_codec_reading_values.specs.Fields.{bits_form, few_form, octets_form}

bit_pieces : (bs : List Bool) → units_of 1 (length bs) bs ≡ Per.bit_units bs
bit_pieces [] = refl
bit_pieces (b ∷ bs) = ap (λ us. exactly (b ∷ []) ∷ us) (bit_pieces bs)

bit_count : (bs : List Bool) → length (Per.bit_units bs) ≡ length bs
bit_count bs = length_of_map (λ (b : Bool). exactly (b ∷ [])) bs

module _ (free : Per.Freedom → Bool) where
  -- ---- n bits
  pub bits_read : (n : ℕ) (bs : List Bool) (a b : Position) → length bs ≡ n → Leads bs a b → Front free (bits_form n bs) a b
  bits_read n bs a b e h = if_in free (length bs == n) (exactly bs) a b (eq-eqb _ _ e) (exactly_in free bs a b h)

  pub few_bits : (n : ℕ) (a : Position) → length a.1 < n → NoneStands free (bits_form n) a
  few_bits n a l bs b f =
      let i = if_out free (length bs == n) (exactly bs) a b f in
      let e = eqb-true (length bs) n i.0 in
      too_short free bs a b (omega (arith, e, l)) i.1

  pub bits_told : (n : ℕ) (bs : List Bool) (a b : Position) → Front free (bits_form n bs) a b → (length bs ≡ n) × Leads bs a b
  bits_told n bs a b f = let i = if_out free (length bs == n) (exactly bs) a b f in (eqb-true (length bs) n i.0, exactly_out free bs a b i.1)

  bit_one : (s t : Bool) (a b c : Position) → Front free (one_bit s) a b → Front free (one_bit t) a c → (s ≡ t) × (b ≡ c)
  bit_one s t a b c f g =
      let q = leads_one free (s ∷ []) (t ∷ []) a b c refl (exactly_out free (s ∷ []) a b f) (exactly_out free (t ∷ []) a c g) in
      let e : s ∷ [] ≡ t ∷ [] = q.0 in
      (cc, q.1)

  number_one : (n m : ℕ) (a b c : Position) → Front free (number_within 6 63 n) a b → Front free (number_within 6 63 m) a c → (n ≡ m) × (b ≡ c)
  number_one n m a b c f g =
      let i = within_out free 6 63 n a b f in
      let j = within_out free 6 63 m a c g in
      let q = leads_one free (binary 6 n) (binary 6 m) a b c refl (exactly_out free (binary 6 n) a b i.stands) (exactly_out free (binary 6 m) a c j.stands) in
      (binary_equal 6 n m i.fits j.fits q.0, q.1)

  module _ (al : Bool) where
    -- ---- the octets of an open type
    pub octets_read : (us : Units) (a b : Position) → Front free (counted_units al 8 us) a b → Front free (octets_form al us.1) a b
    octets_read us a b f =
        let n = counted_size free al 8 us.0 us.1 a b f in
        let k : us.0 ≡ length us.1 / 8 = omega (arith, n) in
        subst (λ m. Front free (counted_units al 8 (m, us.1)) a b) k f

    pub no_octets_form : (a : Position) → NoneStands free (counted_units al 8) a → NoneStands free (octets_form al) a
    no_octets_form a n bs b f = n (length bs / 8, bs) b f

    -- octets as numbers
    pub octets_of : (us : Units) (a b : Position) → Front free (counted_units al 8 us) a b → (os : List ℕ) × (octet_bits os ≡ us.1) × Front free (Per.counted_octets al os) a b
    octets_of us a b f =
        let n = counted_size free al 8 us.0 us.1 a b f in
        let k : length us.1 ≡ 8 * us.0 = omega (arith, n) in
        let e = packed_back us.0 us.1 k in
        (packed us.1, e, octets_front free al us (packed us.1) a b f (packed_octets us.0 us.1 k) e)

    pub units_by_length : (os : List ℕ) (a b : Position) → Front free (Per.counted_octets al os) a b → Front free (counted_units al 8 (length os, octet_bits os)) a b
    unfolding Per.counted_octets
    units_by_length os a b f =
        let i = if_out free (list_all is_octet os) _ a b f in
        if_in free (length (octet_bits os) == length os * 8) _ a b (eq-eqb _ _ (length-octet_bits os)) (subst (λ x. Front free (Per.counted al x) a b) (sym (octet_pieces os)) i.1)

    -- ---- bitmaps
    abbrev long_or_short : List Per.BitForm → Bool → Per.BitForm
    long_or_short us long = cond long (both (exactly (true ∷ [])) (Per.counted al us)) (only_if (Per.is_from_1_to_64 (length us)) (both (exactly (false ∷ binary 6 (length us - 1))) (joined us)))

    pub long_bitmap : (us : Units) (a m b : Position) → (free Per.long_small_number || not (Per.is_from_1_to_64 us.0)) ≡ true →
        Front free (one_bit true) a m → Front free (counted_units al 1 us) m b → Front free (few_form al us.1) a b
    unfolding Per.normally_few
    long_bitmap us a m b t f g =
        let n = counted_size free al 1 us.0 us.1 m b g in
        let k : us.0 ≡ length us.1 = omega (arith, n) in
        let i = if_out free (length us.1 == us.0 * 1) (Per.counted al (units_of 1 us.0 us.1)) m b g in
        let h = subst (λ x. Front free (Per.counted al x) m b) (ap (λ j. units_of 1 j us.1) k ∙ bit_pieces us.1) i.1 in
        let q : us.0 ≡ length (Per.bit_units us.1) = k ∙ sym (bit_count us.1) in
        let may : (true ≡ not (Per.is_from_1_to_64 (length (Per.bit_units us.1)))) ⊎ IsTrue (free Per.long_small_number) =
        elim (or_free _ _ t) [ inl e ↦ inl (sym e ∙ ap (λ j. not (Per.is_from_1_to_64 j)) q) | inr e ↦ inr e ] in
        varied_in free (λ long. long_or_short (Per.bit_units us.1) long) true may a b (join free (exactly (true ∷ [])) (Per.counted al (Per.bit_units us.1)) a m b f h)

    pub short_bitmap : (n : ℕ) (bs : List Bool) (a m p b : Position) → Front free (one_bit false) a m → Front free (number_within 6 63 n) m p →
        length bs ≡ n + 1 → Leads bs p b → Front free (few_form al bs) a b
    unfolding Per.normally_few
    short_bitmap n bs a m p b f g l h =
        let us = Per.bit_units bs in
        let w = within_out free 6 63 n m p g in
        let q : length us ≡ n + 1 = bit_count bs ∙ l in
        let d : length us - 1 ≡ n = omega (arith, q) in
        let u = w.bound in
        let c : Per.is_from_1_to_64 (length us) ≡ true = and_from _ _ (le-leb 1 (length us) (omega (arith, q))) (le-leb (length us) 64 (omega (arith, q, u))) in
        let head : Front free (exactly (false ∷ binary 6 n)) a p = exactly_in free (false ∷ binary 6 n) a p
        (leads_join (false ∷ []) (binary 6 n) a m p (exactly_out free (false ∷ []) a m f) (exactly_out free (binary 6 n) m p w.stands)) in
        let own : Front free (exactly (false ∷ binary 6 (length us - 1))) a p = subst (λ k. Front free (exactly (false ∷ binary 6 k)) a p) (sym d) head in
        let rest : Front free (joined us) p b = subst (λ x. Front free (joined x) p b) (bit_pieces bs) (units_in free 1 (length bs) bs p b (omega arith) h) in
        varied_in free (λ long. long_or_short us long) false (inl (sym (ap not c))) a b (if_in free (Per.is_from_1_to_64 (length us)) _ a b c (join free _ (joined us) a p b own rest))

    -- what follows the bit that selects the form
    abbrev Behind : Bool → List Bool → Position → Position → Type 0
    Behind true bs m b = Front free (counted_units al 1 (length bs, bs)) m b
    Behind false bs m b = (n : ℕ) × (p : Position) × Front free (number_within 6 63 n) m p × (length bs ≡ n + 1) × Leads bs p b

    cases_out : (long : Bool) (bs : List Bool) (a b : Position) → Front free (long_or_short (Per.bit_units bs) long) a b → (m : Position) × Front free (one_bit long) a m × Behind long bs m b
    cases_out true bs a b f =
        let s = split free (exactly (true ∷ [])) (Per.counted al (Per.bit_units bs)) a b f in (
          s.0,
          s.1,
          if_in free (length bs == length bs * 1) (Per.counted al (units_of 1 (length bs) bs)) s.0 b (eq-eqb _ _ (omega arith))
              (subst (λ x. Front free (Per.counted al x) s.0 b) (sym (bit_pieces bs)) s.2),
        )
    cases_out false bs a b f =
        let us = Per.bit_units bs in
        let i = if_out free (Per.is_from_1_to_64 (length us)) _ a b f in
        let c = and_parts _ _ i.0 in
        let lo = leb-true 1 (length us) c.0 in
        let hi = leb-true (length us) 64 c.1 in
        let n = length us - 1 in
        let s = split free (exactly (false ∷ binary 6 n)) (joined us) a b i.1 in
        let h = exactly_out free (false ∷ binary 6 n) a s.0 s.1 in
        let k = h.1 in
        let m : Position = (a.0 + 1, binary 6 n ++ s.0.1) in
        let l : length bs ≡ n + 1 = sym (bit_count bs) ∙ omega (arith, lo) in
        let small : n < 2 ^ 6 = omega (arith, hi, lo) in
        let number : Front free (number_within 6 63 n) m s.0 = if_in free (leb n 63 && ltb n (2 ^ 6)) (exactly (binary 6 n)) m s.0
        (and_from _ _ (le-leb n 63 (omega (arith, hi))) (lt-ltb n (2 ^ 6) small)) (exactly_in free (binary 6 n) m s.0 (refl, omega (arith, k))) in
        let bits = units_out free 1 (length bs) bs s.0 b (omega arith) (subst (λ x. Front free (joined x) s.0 b) (sym (bit_pieces bs)) s.2) in
        (m, exactly_in free (false ∷ []) a m (h.0, refl), (n, s.0, number, l, bits))

    bitmap_out : (bs : List Bool) (a b : Position) → Front free (few_form al bs) a b → (long : Bool) × (m : Position) ×
        Front free (one_bit long) a m × Behind long bs m b × ((long ≡ not (Per.is_from_1_to_64 (length bs))) ⊎ IsTrue (free Per.long_small_number))
    unfolding Per.normally_few
    bitmap_out bs a b f =
        let v = varied_out free (λ long. long_or_short (Per.bit_units bs) long) a b f in
        let c = cases_out v.0 bs a b v.2 in
        (v.0, c.0, c.1, c.2, elim v.1 [ inl e ↦ inl (e ∙ ap (λ j. not (Per.is_from_1_to_64 j)) (bit_count bs)) | inr e ↦ inr e ])

    pub no_bitmap_bit : (a : Position) → NoneStands free one_bit a → NoneStands free (few_form al) a
    no_bitmap_bit a n bs b f = let s = bitmap_out bs a b f in n s.0 s.1 s.2

    behind_bit : (v : Bool) (bs : List Bool) (a m b : Position) → Front free (one_bit v) a m → Front free (few_form al bs) a b → Behind v bs m b
    behind_bit v bs a m b f g =
        let s = bitmap_out bs a b g in
        let q = bit_one v s.0 a m s.1 f s.2 in
        subst (λ p. Behind v bs p b) (sym q.1) (subst (λ u. Behind u bs s.1 b) (sym q.0) s.3)

    -- a long form that the reader does not accept
    pub not_long : (us : Units) (a m b : Position) → (free Per.long_small_number || not (Per.is_from_1_to_64 us.0)) ≡ false →
        Front free (one_bit true) a m → Front free (counted_units al 1 us) m b → NoneStands free (few_form al) a
    not_long us a m b t f h bs c g =
        let s = bitmap_out bs a c g in
        let q = bit_one true s.0 a m s.1 f s.2 in
        let e = counted_one free al 1 us (length bs, bs) m b c h (behind_bit true bs a m c f g) in
        let may : (not (Per.is_from_1_to_64 us.0) ≡ true) ⊎ IsTrue (free Per.long_small_number) =
        elim s.4 [ inl l ↦ inl (ap (λ j. not (Per.is_from_1_to_64 j)) e ∙ sym l ∙ sym q.0) | inr l ↦ inr l ] in
        false≢true (sym t ∙ free_or _ _ may)

    pub no_long_bitmap : (a m : Position) → Front free (one_bit true) a m → NoneStands free (counted_units al 1) m → NoneStands free (few_form al) a
    no_long_bitmap a m f n bs b g = n (length bs, bs) b (behind_bit true bs a m b f g)

    pub no_short_number : (a m : Position) → Front free (one_bit false) a m → NoneStands free (number_within 6 63) m → NoneStands free (few_form al) a
    no_short_number a m f n bs b g = let h = behind_bit false bs a m b f g in n h.0 h.1 h.2

    pub short_of_bits : (n : ℕ) (a m p : Position) → Front free (one_bit false) a m → Front free (number_within 6 63 n) m p → length p.1 < n + 1 → NoneStands free (few_form al) a
    short_of_bits n a m p f g l bs b h =
        let k = behind_bit false bs a m b f h in
        let q = number_one n k.0 m p k.1 g k.2 in
        let e = q.0 in
        let o = ap length (k.4.0 ∙ ap (λ (x : Position). x.1) (sym q.1)) in
        let c = length-append bs b.1 in
        let d = k.3 in
        omega (arith, l, e, o, c, d)
