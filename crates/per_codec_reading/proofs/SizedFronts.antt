-- Units under a size constraint with which the bits begin: an extension bit, and the units after it.
use Rattle.std.proofs.Common.{◌≡◌, ◌⊎◌, inl, inr, ℕ, ◌-◌, ◌*◌, ◌≤◌, ◌==◌, leb, ltb, not, ◌&&◌, ◌||◌, Bool, true, false}
use Rattle.std.proofs.Common.{cond, IsTrue, Option, Some, None, List, [], ◌∷◌, length, refl, ap, sym, ◌∙◌, subst, arith}
use Rattle.std.proofs.lemmas.Bool.{false≢true, leb-true, eqb-true, eq-eqb, and_parts, and_from}
use Rattle.asn1_model.specs.Schema.{Counts, Size}
use Rattle.asn1_model.specs.Numbers.{is_count_within}
use Rattle.asn1_model.specs.Form.{exactly, both, only_if, joined}
use Rattle.asn1_model.specs.Per
use Rattle.asn1_laws_fronts.proofs.PerNumbers.{constrained_alike}
use Rattle.per_codec_laws.specs.Takes.{Position, Front}
use Rattle.per_codec_laws.proofs.Fronts.{split, join, if_in, if_out, varied_in, varied_out, nothing_front, of_nothing, of_refused}
use Rattle.per_codec_reading.specs.Fronts.{NoneStands}
use Rattle.per_codec_reading.proofs.Fronts.{or_free, free_or, exactly_in, exactly_out}
use Rattle.per_codec_reading.specs.Units.{Units, units_of}
use Rattle.per_codec_laws.specs.Sizes.{extension_bit, told_highest}
use Rattle.per_codec_laws.proofs.Next.{same_extension_bit}
use Rattle.per_codec_reading.specs.Headings.{told_count, units_by_count, units_by_length, sized_units, admitted, may_be_outside, determinant_form, heading_form}
use Rattle.per_codec_reading.proofs.HeadingFronts.{units_headed}
use Rattle.per_codec_reading.proofs.UnitFronts.{length-units, units_in, units_out}
use Rattle.per_codec_reading.proofs.RunFronts.{one}
use Rattle.per_codec_reading.proofs.RunsOne.{counted_one}
use Rattle.std.specs.Option.{option_map_or}

module _ (free : Per.Freedom → Bool) where
  -- ---- units after a number that bounds determine
  same_at_octet : (al : Bool) (x y : Per.BitForm) (a b : Position) → ((m : Position) → Front free x m b → Front free y m b) → Front free (Per.at_octet al x) a b → Front free (Per.at_octet al y) a b
  unfolding Per.at_octet
  same_at_octet false x y a b h f = h a f
  same_at_octet true x y a b h f = let s = split free _ x a b f in join free _ y a s.0 b s.1 (h s.0 s.2)

  abbrev root : Bool → (Counts → Bool) → Counts → ℕ → List Per.BitForm → Per.BitForm
  root al has_padding c high us = both (Per.constrained al (high - c.low) (length us - c.low)) (Per.at_octet (al && has_padding c) (joined us))

  told_in : (al : Bool) (w : ℕ) (has_padding : ℕ → Counts → Bool) (c : Counts) (high n : ℕ) (bs : List Bool) (a b : Position) →
      Front free (units_by_count al w has_padding c high (n, bs)) a b → Front free (root al (has_padding n) c high (units_of w n bs)) a b
  told_in al w has_padding c high n bs a b f =
      let i = if_out free (length bs == n * w) _ a b f in
      let s = split free (told_count al c.low high n) (Per.at_octet (al && has_padding n c) (exactly bs)) a b i.1 in
      let k = if_out free (leb c.low n && leb n high) (Per.constrained al (high - c.low) (n - c.low)) a s.0 s.1 in
      let g = subst (λ m. Front free (Per.constrained al (high - c.low) (m - c.low)) a s.0) (sym (length-units w n bs)) k.1 in
      join free _ _ a s.0 b g (same_at_octet (al && has_padding n c) (exactly bs) (joined (units_of w n bs)) s.0 b (λ m h. units_in free w n bs m b (eqb-true _ _ i.0) (exactly_out free bs m b h)) s.2)

  told_out : (al : Bool) (w : ℕ) (has_padding : ℕ → Counts → Bool) (c : Counts) (high n : ℕ) (bs : List Bool) (a b : Position) → length bs ≡ n * w →
      (leb c.low n && leb n high) ≡ true → Front free (root al (has_padding n) c high (units_of w n bs)) a b → Front free (units_by_count al w has_padding c high (n, bs)) a b
  told_out al w has_padding c high n bs a b l k f =
      let s = split free (Per.constrained al (high - c.low) (length (units_of w n bs) - c.low)) (Per.at_octet (al && has_padding n c) (joined (units_of w n bs))) a b f in
      let g = subst (λ m. Front free (Per.constrained al (high - c.low) (m - c.low)) a s.0) (length-units w n bs) s.1 in
      if_in free (length bs == n * w) _ a b (eq-eqb _ _ l) (join free _ _ a s.0 b (if_in free (leb c.low n && leb n high) _ a s.0 k g)
      (same_at_octet (al && has_padding n c) (joined (units_of w n bs)) (exactly bs) s.0 b (λ m h. exactly_in free bs m b (units_out free w n bs m b l h)) s.2))

  told_same : (al : Bool) (w : ℕ) (has_padding : ℕ → Counts → Bool) (c : Counts) (high : ℕ) (us vs : Units) (a b d : Position) →
      Front free (units_by_count al w has_padding c high us) a b → Front free (units_by_count al w has_padding c high vs) a d → us.0 ≡ vs.0
  told_same al w has_padding c high us vs a b d f g =
      let i = if_out free (length us.1 == us.0 * w) _ a b f in
      let j = if_out free (length vs.1 == vs.0 * w) _ a d g in
      let s = split free (told_count al c.low high us.0) _ a b i.1 in
      let t = split free (told_count al c.low high vs.0) _ a d j.1 in
      let k = if_out free (leb c.low us.0 && leb us.0 high) _ a s.0 s.1 in
      let l = if_out free (leb c.low vs.0 && leb vs.0 high) _ a t.0 t.1 in
      let m = (one free a s.0 t.0 (constrained_alike free al (high - c.low) (us.0 - c.low) (vs.0 - c.low)) k.1 l.1).0 in
      let p : c.low ≤ us.0 = leb-true _ _ ((and_parts _ _ k.0).0) in
      let q : c.low ≤ vs.0 = leb-true _ _ ((and_parts _ _ l.0).0) in
      omega arith

  -- ---- units of the root, or encoded as outside it
  pub told_size : (al : Bool) (w : ℕ) (has_padding : ℕ → Counts → Bool) (c : Counts) (told : Option ℕ) (us : Units) (a b : Position) →
      Front free (units_by_length al w has_padding c told us) a b → length us.1 ≡ us.0 * w
  told_size al w has_padding c None us a b f = eqb-true _ _ (if_out free (length us.1 == us.0 * w) _ a b f).0
  told_size al w has_padding c (Some high) us a b f = eqb-true _ _ (if_out free (length us.1 == us.0 * w) _ a b f).0

  root_in : (al : Bool) (w : ℕ) (has_padding : ℕ → Counts → Bool) (c : Counts) (high : Option ℕ) (us : Units) (a b : Position) →
      Front free (units_by_length al w has_padding c (told_highest false high) us) a b → Front free (Per.sized_root al c high (has_padding us.0) (units_of w us.0 us.1)) a b
  unfolding Per.sized_root
  root_in al w has_padding c None us a b f = (if_out free (length us.1 == us.0 * w) _ a b f).1
  root_in al w has_padding c (Some high) us a b f = go (ltb high 65536) f
    where
      go : (t : Bool) → Front free (units_by_length al w has_padding c (cond t (Some high) None) us) a b →
          Front free (cond t (root al (has_padding us.0) c high (units_of w us.0 us.1)) (Per.counted al (units_of w us.0 us.1))) a b
      go true f = told_in al w has_padding c high us.0 us.1 a b f
      go false f = (if_out free (length us.1 == us.0 * w) _ a b f).1

  root_out : (al : Bool) (w : ℕ) (has_padding : ℕ → Counts → Bool) (c : Counts) (high : Option ℕ) (us : Units) (a b : Position) →
      length us.1 ≡ us.0 * w → (leb c.low us.0 && (option_map_or (λ x. leb us.0 x) high true)) ≡ true →
      Front free (Per.sized_root al c high (has_padding us.0) (units_of w us.0 us.1)) a b → Front free (units_by_length al w has_padding c (told_highest false high) us) a b
  unfolding Per.sized_root
  root_out al w has_padding c None us a b l k f = if_in free (length us.1 == us.0 * w) _ a b (eq-eqb _ _ l) f
  root_out al w has_padding c (Some high) us a b l k f = go (ltb high 65536) f
    where
      go : (t : Bool) → Front free (cond t (root al (has_padding us.0) c high (units_of w us.0 us.1)) (Per.counted al (units_of w us.0 us.1))) a b →
          Front free (units_by_length al w has_padding c (cond t (Some high) None) us) a b
      go true f = told_out al w has_padding c high us.0 us.1 a b l k f
      go false f = if_in free (length us.1 == us.0 * w) _ a b (eq-eqb _ _ l) f

  outside_in : (al : Bool) (w : ℕ) (has_padding : ℕ → Counts → Bool) (c : Counts) (high : Option ℕ) (us : Units) (a b : Position) →
      Front free (units_by_length al w has_padding c (told_highest true high) us) a b → Front free (Per.counted al (units_of w us.0 us.1)) a b
  outside_in al w has_padding c high us a b f = (if_out free (length us.1 == us.0 * w) _ a b f).1

  outside_out : (al : Bool) (w : ℕ) (has_padding : ℕ → Counts → Bool) (c : Counts) (high : Option ℕ) (us : Units) (a b : Position) →
      length us.1 ≡ us.0 * w → Front free (Per.counted al (units_of w us.0 us.1)) a b → Front free (units_by_length al w has_padding c (told_highest true high) us) a b
  outside_out al w has_padding c high us a b l f = if_in free (length us.1 == us.0 * w) _ a b (eq-eqb _ _ l) f

  pub told_one : (al : Bool) (w : ℕ) (has_padding : ℕ → Counts → Bool) (c : Counts) (told : Option ℕ) (us vs : Units) (a b d : Position) →
      Front free (units_by_length al w has_padding c told us) a b → Front free (units_by_length al w has_padding c told vs) a d → us.0 ≡ vs.0
  told_one al w has_padding c None us vs a b d f g = counted_one free al w us vs a b d f g
  told_one al w has_padding c (Some high) us vs a b d f g = told_same al w has_padding c high us vs a b d f g

  -- ---- all of it
  -- the extension bit, and the units after it
  pub record WithExtensionBit (al : Bool) (z : Size) (held : Counts) (w : ℕ) (has_padding : ℕ → Counts → Bool) (us : Units) (a b : Position) : Type 0 where
    pub outside : Bool
    pub mid : Position
    pub bit : Front free (extension_bit z.extensible outside) a mid
    pub units : Front free (units_by_length al w has_padding z.counts (told_highest outside z.counts.high) us) mid b
    pub may : admitted held z.counts outside us.0 ≡ true
    pub told : may_be_outside (free Per.root_told_outside) outside (is_count_within z.counts us.0) ≡ true

  with_extension_bit_in : (e outside in_root : Bool) (x y : Per.BitForm) (a mid b : Position) →
      may_be_outside (free Per.root_told_outside) outside in_root ≡ true → Front free (extension_bit e outside) a mid → (outside || in_root) ≡ true →
      (outside ≡ false → Front free x mid b) → (outside ≡ true → Front free y mid b) → Front free (Per.with_extension_bit e in_root x y) a b
  unfolding Per.with_extension_bit
  with_extension_bit_in false true i x y a mid b t m k f g = absurd (of_refused free a mid m)
  with_extension_bit_in false false i x y a mid b t m k f g = if_in free i x a b k (subst (λ p. Front free x p b) (of_nothing free a mid m) (f refl))
  with_extension_bit_in true true i x y a mid b t m k f g = varied_in free _ true (elim (or_free _ _ t) [ inl z ↦ inl (sym z) | inr z ↦ inr z ]) a b
      (join free (exactly (true ∷ [])) y a mid b m (g refl))
  with_extension_bit_in true false i x y a mid b t m k f g = varied_in free _ false (inl (sym (ap not k))) a b (if_in free i _ a b k (join free (exactly (false ∷ [])) x a mid b m (f refl)))

  -- an extension bit, and one of two forms after it
  record Parts (e in_root : Bool) (x y : Per.BitForm) (a b : Position) : Type 0 where
    pub outside : Bool
    pub mid : Position
    pub bit : Front free (extension_bit e outside) a mid
    pub may : (outside || in_root) ≡ true
    pub told : may_be_outside (free Per.root_told_outside) outside in_root ≡ true
    pub root_form : outside ≡ false → Front free x mid b
    pub outer_form : outside ≡ true → Front free y mid b

  with_extension_bit_out : (e in_root : Bool) (x y : Per.BitForm) (a b : Position) → Front free (Per.with_extension_bit e in_root x y) a b → Parts e in_root x y a b
  unfolding Per.with_extension_bit
  with_extension_bit_out false i x y a b f =
      let k = if_out free i x a b f in
      record { outside = false; mid = a; bit = nothing_front free a; may = k.0; told = free_or _ true (inl refl); root_form = λ e. k.1; outer_form = λ e. absurd (false≢true e) }
  with_extension_bit_out true i x y a b f = let v = varied_out free _ a b f in go v.0 v.1 v.2
    where
      go : (t : Bool) → (t ≡ not i) ⊎ IsTrue (free Per.root_told_outside) → Front free (cond t (both (exactly (true ∷ [])) y) (only_if i (both (exactly (false ∷ [])) x))) a b → Parts true i x y a b
      go true z g = let s = split free (exactly (true ∷ [])) y a b g in
          record {
            outside = true;
            mid = s.0;
            bit = s.1;
            may = refl;
            told =
                free_or _ (not i) (elim z [ inl u ↦ inl (sym u) | inr u ↦ inr u ]);
            root_form = λ e. absurd (false≢true (sym e));
            outer_form = λ e. s.2;
          }
      go false z g =
          let k = if_out free i _ a b g in
          let s = split free (exactly (false ∷ [])) x a b k.1 in
          record { outside = false; mid = s.0; bit = s.1; may = k.0; told = free_or _ true (inl refl); root_form = λ e. s.2; outer_form = λ e. absurd (false≢true e) }

  pub sized_in : (al : Bool) (z : Size) (held : Counts) (w : ℕ) (has_padding : ℕ → Counts → Bool) (us : Units) (outside : Bool) (a mid b : Position) →
      may_be_outside (free Per.root_told_outside) outside (is_count_within z.counts us.0) ≡ true →
      Front free (extension_bit z.extensible outside) a mid → Front free
      (units_by_length al w has_padding z.counts (told_highest outside z.counts.high) us) mid b → admitted held z.counts outside us.0 ≡ true → Front free (sized_units al z held w has_padding us) a b
  unfolding Per.sized
  sized_in al z held w has_padding us outside a mid b t m f k =
      let p = and_parts (is_count_within held us.0) (outside || is_count_within z.counts us.0) k in
      let l = told_size al w has_padding z.counts (told_highest outside z.counts.high) us mid b f in
      let x = Per.sized_root al z.counts z.counts.high (has_padding us.0) (units_of w us.0 us.1) in
      let y = Per.counted al (units_of w us.0 us.1) in
      let T : Bool → Type 0 = λ o. Front free (units_by_length al w has_padding z.counts (told_highest o z.counts.high) us) mid b in
      let g = with_extension_bit_in z.extensible outside (is_count_within z.counts us.0) x y a mid b t m p.1
      (λ e. root_in al w has_padding z.counts z.counts.high us mid b (subst T e f)) (λ e. outside_in al w has_padding z.counts z.counts.high us mid b (subst T e f)) in
      let h = if_in free (is_count_within held us.0) (Per.with_extension_bit z.extensible (is_count_within z.counts us.0) x y) a b p.0 g in
      if_in free (length us.1 == us.0 * w) _ a b (eq-eqb _ _ l)
      (subst (λ n. Front free (only_if (is_count_within held n) (Per.with_extension_bit z.extensible (is_count_within z.counts n) x y)) a b) (sym (length-units w us.0 us.1)) h)

  pub sized_out : (al : Bool) (z : Size) (held : Counts) (w : ℕ) (has_padding : ℕ → Counts → Bool) (us : Units) (a b : Position) →
      Front free (sized_units al z held w has_padding us) a b → WithExtensionBit al z held w has_padding us a b
  unfolding Per.sized
  sized_out al z held w has_padding us a b f =
      let i = if_out free (length us.1 == us.0 * w) _ a b f in
      let l = eqb-true _ _ i.0 in
      let x = Per.sized_root al z.counts z.counts.high (has_padding us.0) (units_of w us.0 us.1) in
      let y = Per.counted al (units_of w us.0 us.1) in
      let h = subst (λ n. Front free (only_if (is_count_within held n) (Per.with_extension_bit z.extensible (is_count_within z.counts n) x y)) a b) (length-units w us.0 us.1) i.1 in
      let j = if_out free (is_count_within held us.0) (Per.with_extension_bit z.extensible (is_count_within z.counts us.0) x y) a b h in
      let q = with_extension_bit_out z.extensible (is_count_within z.counts us.0) x y a b j.1 in
      record { outside = q.outside; mid = q.mid; bit = q.bit; units = go q.outside q.may q.mid q.root_form q.outer_form; may = and_from _ _ j.0 q.may; told = q.told }
    where
      go : (o : Bool) → (o || is_count_within z.counts us.0) ≡ true → (m : Position) →
          (o ≡ false → Front free (Per.sized_root al z.counts z.counts.high (has_padding us.0) (units_of w us.0 us.1)) m b) →
          (o ≡ true → Front free (Per.counted al (units_of w us.0 us.1)) m b) → Front free (units_by_length al w has_padding z.counts (told_highest o z.counts.high) us) m b
      go true k m g h = outside_out al w has_padding z.counts z.counts.high us m b (eqb-true _ _ (if_out free (length us.1 == us.0 * w) _ a b f).0) (h refl)
      go false k m g h = root_out al w has_padding z.counts z.counts.high us m b (eqb-true _ _ (if_out free (length us.1 == us.0 * w) _ a b f).0) k (g refl)

  -- ---- refusals
  pub no_heading : (al : Bool) (z : Size) (held : Counts) (w : ℕ) (has_padding : ℕ → Counts → Bool) (a : Position) →
      NoneStands free (heading_form al z) a → NoneStands free (sized_units al z held w has_padding) a
  no_heading al z held w has_padding a n us b f =
      let m = sized_out al z held w has_padding us a b f in
      units_headed free al w has_padding z.counts (told_highest m.outside z.counts.high) us m.mid b m.units
      (λ d c g. n (record { is_outside = m.outside; determinant = d }) c
      (join free (extension_bit z.extensible m.outside) (determinant_form al z.counts (told_highest m.outside z.counts.high) d) a m.mid c m.bit g))

  pub no_units : (al : Bool) (z : Size) (held : Counts) (w : ℕ) (has_padding : ℕ → Counts → Bool) (outside : Bool) (a mid : Position) →
      Front free (extension_bit z.extensible outside) a mid → NoneStands free
      (units_by_length al w has_padding z.counts (told_highest outside z.counts.high)) mid → NoneStands free (sized_units al z held w has_padding) a
  no_units al z held w has_padding outside a mid k n us b f =
      let m = sized_out al z held w has_padding us a b f in
      let o = same_extension_bit free z.extensible outside m.outside a mid m.mid k m.bit in
      let u = subst (λ p. Front free (units_by_length al w has_padding z.counts (told_highest m.outside z.counts.high) us) p b) (sym o.1) m.units in
      n us b (subst (λ t. Front free (units_by_length al w has_padding z.counts (told_highest t z.counts.high) us) mid b) (sym o.0) u)

  pub not_admitted : (al : Bool) (z : Size) (held : Counts) (w : ℕ) (has_padding : ℕ → Counts → Bool) (vs : Units) (outside : Bool)
      (a mid c : Position) → Front free (extension_bit z.extensible outside) a mid →
      Front free (units_by_length al w has_padding z.counts (told_highest outside z.counts.high) vs) mid c →
      admitted held z.counts outside vs.0 ≡ false → NoneStands free (sized_units al z held w has_padding) a
  not_admitted al z held w has_padding vs outside a mid c k h d us b f =
      let m = sized_out al z held w has_padding us a b f in
      let o = same_extension_bit free z.extensible outside m.outside a mid m.mid k m.bit in
      let u = subst (λ p. Front free (units_by_length al w has_padding z.counts (told_highest m.outside z.counts.high) us) p b) (sym o.1) m.units in
      let v = subst (λ t. Front free (units_by_length al w has_padding z.counts (told_highest t z.counts.high) us) mid b) (sym o.0) u in
      let n = told_one al w has_padding z.counts (told_highest outside z.counts.high) vs us mid c b h v in
      false≢true (sym d ∙ ap (λ t. admitted held z.counts t vs.0) o.0 ∙ ap (admitted held z.counts m.outside) n ∙ m.may)

  -- an extension bit that the reader does not accept
  pub not_outside : (al : Bool) (z : Size) (held : Counts) (w : ℕ) (has_padding : ℕ → Counts → Bool) (vs : Units) (outside : Bool)
      (a mid c : Position) → may_be_outside (free Per.root_told_outside) outside (is_count_within z.counts vs.0) ≡ false →
      Front free (extension_bit z.extensible outside) a mid → Front free
      (units_by_length al w has_padding z.counts (told_highest outside z.counts.high) vs) mid c → NoneStands free (sized_units al z held w has_padding) a
  not_outside al z held w has_padding vs outside a mid c d k h us b f =
      let m = sized_out al z held w has_padding us a b f in
      let o = same_extension_bit free z.extensible outside m.outside a mid m.mid k m.bit in
      let u = subst (λ p. Front free (units_by_length al w has_padding z.counts (told_highest m.outside z.counts.high) us) p b) (sym o.1) m.units in
      let v = subst (λ t. Front free (units_by_length al w has_padding z.counts (told_highest t z.counts.high) us) mid b) (sym o.0) u in
      let n = told_one al w has_padding z.counts (told_highest outside z.counts.high) vs us mid c b h v in
      false≢true (sym d ∙ ap (λ t. may_be_outside (free Per.root_told_outside) t (is_count_within z.counts vs.0)) o.0 ∙
      ap (λ i. may_be_outside (free Per.root_told_outside) m.outside (is_count_within z.counts i)) n ∙ m.told)
