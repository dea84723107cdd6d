-- Units after a length determinant that bounds determine, part by part.
use Rattle.std.proofs.Common.{◌≡◌, ℕ, ◌-◌, ◌*◌, ◌≤◌, ◌<◌, ◌==◌, leb, ◌&&◌, Bool, true, false, List, length, refl, ap, sym, ◌∙◌, subst, arith, length-append, []}
use Rattle.std.proofs.lemmas.Bool.{leb-true, eqb-true, eq-eqb, and_parts}
use Rattle.asn1_model.specs.Schema.{Counts}
use Rattle.asn1_model.specs.Form.{exactly}
use Rattle.asn1_model.specs.Per
use Rattle.asn1_laws_fronts.proofs.PerNumbers.{constrained_alike}
use Rattle.per_codec_laws.specs.Takes.{Position, Front}
use Rattle.per_codec_laws.proofs.Fronts.{split, join, if_in, if_out}
use Rattle.per_codec_reading.specs.Fronts.{Leads, NoneStands}
use Rattle.per_codec_reading.proofs.Fronts.{exactly_in, exactly_out, after_padding, behind_padding}
use Rattle.per_codec_reading.specs.Units.{Units}
use Rattle.per_codec_reading.specs.Headings.{told_count, units_by_count}
use Rattle.per_codec_reading.proofs.RunFronts.{one}

pub padded_true : (al p : Bool) → p ≡ true → (al && p) ≡ al
padded_true true p e = e
padded_true false p e = refl

pub padded_false : (al p : Bool) → p ≡ false → (al && p) ≡ false
padded_false true p e = e
padded_false false p e = refl

module _ (free : Per.Freedom → Bool) where
  count_one : (al : Bool) (low high n k : ℕ) (a b c : Position) → Front free (told_count al low high n) a b → Front free (told_count al low high k) a c → (n ≡ k) × (b ≡ c)
  count_one al low high n k a b c f g =
      let i = if_out free (leb low n && leb n high) _ a b f in
      let j = if_out free (leb low k && leb k high) _ a c g in
      let m = one free a b c (constrained_alike free al (high - low) (n - low) (k - low)) i.1 j.1 in
      let p : low ≤ n = leb-true _ _ ((and_parts _ _ i.0).0) in
      let q : low ≤ k = leb-true _ _ ((and_parts _ _ j.0).0) in
      let e = m.0 in
      (omega arith, m.1)

  pub no_order : (al : Bool) (low high : ℕ) (a : Position) → high < low → NoneStands free (told_count al low high) a
  no_order al low high a h n b f =
      let i = if_out free (leb low n && leb n high) _ a b f in
      let p = and_parts (leb low n) (leb n high) i.0 in
      let q : low ≤ n = leb-true _ _ p.0 in
      let r : n ≤ high = leb-true _ _ p.1 in
      absurd (omega arith)

  pub no_number : (al : Bool) (low high : ℕ) (a : Position) → NoneStands free (Per.constrained al (high - low)) a → NoneStands free (told_count al low high) a
  no_number al low high a n k b f = n (k - low) b (if_out free (leb low k && leb k high) _ a b f).1

  module _ (al : Bool) (w : ℕ) (has_padding : ℕ → Counts → Bool) (c : Counts) (high : ℕ) where
    -- what follows the length determinant
    behind : (n : ℕ) (us : Units) (a m b : Position) → Front free (told_count al c.low high n) a m →
        Front free (units_by_count al w has_padding c high us) a b → (length us.1 ≡ n * w) × Front free (Per.at_octet (al && has_padding n c) (exactly us.1)) m b
    behind n us a m b h f =
        let i = if_out free (length us.1 == us.0 * w) _ a b f in
        let s = split free (told_count al c.low high us.0) (Per.at_octet (al && has_padding us.0 c) (exactly us.1)) a b i.1 in
        let o = count_one al c.low high n us.0 a m s.0 h s.1 in
        let g = subst (λ p. Front free (Per.at_octet (al && has_padding us.0 c) (exactly us.1)) p b) (sym o.1) s.2 in
        (eqb-true _ _ i.0 ∙ ap (λ k. k * w) (sym o.0), subst (λ k. Front free (Per.at_octet (al && has_padding k c) (exactly us.1)) m b) (sym o.0) g)

    pub no_octet : (n : ℕ) (a m : Position) → Front free (told_count al c.low high n) a m → NoneStands free (Per.at_octet (al && has_padding n c)) m →
        NoneStands free (units_by_count al w has_padding c high) a
    no_octet n a m h z us b f = let g = behind n us a m b h f in z (exactly us.1) b g.1

    pub few_bits : (n : ℕ) (a m o : Position) → Front free (told_count al c.low high n) a m →
        Front free (Per.at_octet (al && has_padding n c) (exactly [])) m o → length o.1 < n * w → NoneStands free (units_by_count al w has_padding c high) a
    few_bits n a m o h k l us b f =
        let g = behind n us a m b h f in
        let e = exactly_out free us.1 o b (behind_padding free (al && has_padding n c) (exactly us.1) m o b k g.1) in
        let d = g.0 in
        let i = ap length e.0 in
        let j = length-append us.1 b.1 in
        absurd (omega arith)

    pub told_stands : (n : ℕ) (bs : List Bool) (a m o b : Position) → Front free (told_count al c.low high n) a m →
        Front free (Per.at_octet (al && has_padding n c) (exactly [])) m o → Leads bs o b → length bs ≡ n * w → Front free (units_by_count al w has_padding c high (n, bs)) a b
    told_stands n bs a m o b h k l e = if_in free (length bs == n * w) _ a b (eq-eqb _ _ e)
        (join free _ _ a m b h (after_padding free (al && has_padding n c) (exactly bs) m o b k (exactly_in free bs o b l)))
