-- The bits with which a number under bounds, or an INTEGER, begins.
use Rattle.asn1_model.specs.Schema.{wide_range}
use Rattle.std.specs.Prelude.{FitsSigned, unsigned_abs, ◌+ℤ◌, ◌-ℤ◌, ◌<ℤ◌, ◌≤ℤ◌}
use Rattle.std.specs.Int.{w128}
use Rattle.std.proofs.Common.{◌≡◌, ℕ, ◌-◌, ◌^◌, ◌<◌, leb, not, ℤ, pos, negsuc, Bool, true, false, cond, ◌&&◌, ◌⊎◌}
use Rattle.std.proofs.Common.{IsTrue, inl, inr, Option, Some, None, Result, Ok, Err, IfOk, OnOk, IfErr, OnErr, [], ◌∷◌}
use Rattle.std.proofs.Common.{refl, sym, ap, ◌∙◌, subst, arith}
use Rattle.std.proofs.lemmas.Int.{ints}
use Rattle.std.proofs.lemmas.Bool.{false≢true, leb-true, lt-ltb, and_parts, and_from}
use Rattle.asn1_model.specs.Numbers.{above, is_at_most, is_within}
use Rattle.asn1_model.specs.Form.{exactly, both, only_if, given}
use Rattle.asn1_model.specs.Per
use Rattle.asn1_values_natives.proofs.RangeLaws.{at_most, not_at_most}
use Rattle.asn1_schema_constraints.specs.Bounds.{lower, upper, range_of}
use Rattle.asn1_schema_constraints.specs.declared.bounds.Bounded.{Bounded}
use Rattle.asn1_schema_constraints.specs.Sets.{has_additions}
use Rattle.asn1_schema_constraints.specs.declared.extensions.Extensible.{Extensible}
use Rattle.asn1_schema_constraints.specs.declared.parts.Value as Constraint
use Rattle.asn1_schema_errors.specs.declared.DecodeError.{DecodeError}
use Rattle.asn1_laws_fronts.proofs.Fronts.{agree_first, agree_map, agree_nothing}
use Rattle.asn1_laws_fronts.proofs.PerNumbers.{constrained_alike, semi_alike, unconstrained_alike}
use Rattle.per_codec_laws.specs.Takes.{Position, Front}
use Rattle.per_codec_laws.proofs.Fronts.{split, join, varied_in, varied_out, given_in, given_out, if_in, if_out}
use Rattle.per_codec_laws.proofs.Next.{same_fronts}
use Rattle.per_codec_reading.specs.Fronts.{NoneStands, IsFresh, Misses}
use Rattle.per_codec_reading.specs.Lengths.{one_bit}
use Rattle.per_codec_reading.proofs.Fronts.{or_free, free_or, none_misses}
use Rattle.per_codec_reading.specs.Headings.{may_be_outside}
use Rattle.per_codec_reading_values.specs.Integers.{offset_form, is_offset, in_128_bits, behind_extension_bit, under_constraint}
use Rattle.std.specs.Option.{option_map_or}

-- ---- 128 bits
pub fits_wide : (v : ℤ) → FitsSigned w128 v → is_within wide_range v ≡ true
fits_wide (pos n) h = let l = h.sfits in and_from _ _ (at_most (negsuc (2 ^ 127 - 1)) (pos n) (omega (arith, ints))) (at_most (pos n) (pos (2 ^ 127 - 1)) (omega (arith, ints, l)))
fits_wide (negsuc n) h = let l = h.sfits in and_from _ _ (at_most (negsuc (2 ^ 127 - 1)) (negsuc n) (omega (arith, ints, l))) (at_most (negsuc n) (pos (2 ^ 127 - 1)) (omega (arith, ints)))

at_most_told : (a b : ℤ) → is_at_most a b ≡ true → a ≤ℤ b
at_most_told a b h = told (b -ℤ a) refl h
  where
    told : (d : ℤ) → b -ℤ a ≡ d → elim d as (λ _. Bool) [ pos n ↦ true | negsuc n ↦ false ] ≡ true → a ≤ℤ b
    told (pos n) e h = omega (arith, ints, e)
    told (negsuc n) e h = cc

pub wide_told : (v : ℤ) → is_within wide_range v ≡ true → FitsSigned w128 v
wide_told (pos n) h = let l : pos n ≤ℤ pos (2 ^ 127 - 1) = at_most_told (pos n) (pos (2 ^ 127 - 1))
    (and_parts (is_at_most (negsuc (2 ^ 127 - 1)) (pos n)) (is_at_most (pos n) (pos (2 ^ 127 - 1))) h).1 in record { sfits = omega (arith, ints, l) }
wide_told (negsuc n) h = let l : negsuc (2 ^ 127 - 1) ≤ℤ negsuc n =
    at_most_told (negsuc (2 ^ 127 - 1)) (negsuc n) (and_parts (is_at_most (negsuc (2 ^ 127 - 1)) (negsuc n))
    (is_at_most (negsuc n) (pos (2 ^ 127 - 1))) h).0 in record { sfits = omega (arith, ints, l) }

is_not : (b : Bool) → not b ≡ true → b ≡ false
is_not true e = absurd (false≢true e)
is_not false e = refl

-- ---- the difference of a number and a bound
natural_some : (z : ℤ) (d : ℕ) → elim z [ pos n ↦ Some n | negsuc n ↦ None ] ≡ Some d → z ≡ pos d
natural_some (pos n) d e = cc
natural_some (negsuc n) d e = cc

above_is : (low v : ℤ) (d : ℕ) → v ≡ low +ℤ pos d → above low v ≡ Some d
above_is low v d e = let f : v -ℤ low ≡ pos d = omega (arith, ints, e) in ap (λ z. elim z [ pos n ↦ Some n | negsuc n ↦ None ]) f

above_told : (low v : ℤ) (d : ℕ) → above low v ≡ Some d → v ≡ low +ℤ pos d
above_told low v d e = let f = natural_some (v -ℤ low) d e in omega (arith, ints, f)

-- the span of bounds
pub span_told : (low high : ℤ) (span : ℕ) → low ≤ℤ high → span ≡ unsigned_abs (high -ℤ low) → high ≡ low +ℤ pos span
span_told low high span n e = told (high -ℤ low) refl e
  where
    told : (z : ℤ) → high -ℤ low ≡ z → span ≡ unsigned_abs z → high ≡ low +ℤ pos span
    told (pos d) f g = let h : span ≡ d = g in omega (arith, ints, f, h)
    told (negsuc d) f g = absurd (omega (arith, ints, f, n))

module _ (free : Per.Freedom → Bool) where
  -- ---- a form that is followed by the difference of a number and its lower bound
  shifted_in : (x : ℕ → Per.BitForm) (low v : ℤ) (d : ℕ) (a b : Position) → v ≡ low +ℤ pos d → Front free (x d) a b → Front free (given (above low v) x) a b
  shifted_in x low v d a b e f = given_in free (above low v) x d (above_is low v d e) a b f

  shifted_out : (x : ℕ → Per.BitForm) (low v : ℤ) (a b : Position) → Front free (given (above low v) x) a b → (d : ℕ) × (v ≡ low +ℤ pos d) × Front free (x d) a b
  shifted_out x low v a b f = let g = given_out free (above low v) x a b f in (g.0, above_told low v g.0 g.1, g.2)

  -- ---- between two bounds
  pub between_read : (al : Bool) (low high v : ℤ) (span d : ℕ) (a b : Position) → high ≡ low +ℤ pos span → v ≡ low +ℤ pos d →
      is_within wide_range v ≡ true → Front free (Per.constrained al span d) a b → Front free (in_128_bits (Per.whole_number al (Some low) (Some high)) v) a b
  unfolding Per.whole_number
  between_read al low high v span d a b e f w g = if_in free (is_within wide_range v) _ a b w
      (given_in free (above low high) (λ s. given (above low v) (λ d. Per.constrained al s d)) span (above_is low high span e) a b (shifted_in (λ d. Per.constrained al span d) low v d a b f g))

  between_told : (al : Bool) (low high v : ℤ) (a b : Position) → Front free (Per.whole_number al (Some low) (Some high) v) a b → (span : ℕ) ×
      (high ≡ low +ℤ pos span) × (d : ℕ) × (v ≡ low +ℤ pos d) × Front free (Per.constrained al span d) a b
  unfolding Per.whole_number
  between_told al low high v a b f =
      let g = given_out free (above low high) (λ s. given (above low v) (λ d. Per.constrained al s d)) a b f in
      let s = shifted_out (λ d. Per.constrained al g.0 d) low v a b g.2 in
      (g.0, above_told low high g.0 g.1, s.0, s.1, s.2)

  pub none_between : (al : Bool) (low high : ℤ) (a : Position) → high <ℤ low → NoneStands free (in_128_bits (Per.whole_number al (Some low) (Some high))) a
  none_between al low high a l v b f =
      let t = between_told al low high v a b (if_out free (is_within wide_range v) _ a b f).1 in
      let e = t.1 in
      omega (arith, ints, l, e)

  pub between_missed : (al : Bool) (low high : ℤ) (span : ℕ) (a : Position) → high ≡ low +ℤ pos span → NoneStands free (Per.constrained al span) a →
      NoneStands free (in_128_bits (Per.whole_number al (Some low) (Some high))) a
  between_missed al low high span a e n v b f =
      let t = between_told al low high v a b (if_out free (is_within wide_range v) _ a b f).1 in
      let g = t.1 in
      let s : t.0 ≡ span = omega (arith, ints, e, g) in
      n t.2 b (subst (λ x. Front free (Per.constrained al x t.2) a b) s t.4)

  pub between_outside : (al : Bool) (low high : ℤ) (span d : ℕ) (a c : Position) → high ≡ low +ℤ pos span →
      is_within wide_range (low +ℤ pos d) ≡ false → Front free (Per.constrained al span d) a c → NoneStands free (in_128_bits (Per.whole_number al (Some low) (Some high))) a
  between_outside al low high span d a c e w h v b f =
      let i = if_out free (is_within wide_range v) _ a b f in
      let t = between_told al low high v a b i.1 in
      let g = t.1 in
      let s : t.0 ≡ span = omega (arith, ints, e, g) in
      let q : t.2 ≡ d = (same_fronts free (constrained_alike free al span t.2 d) a b c (subst (λ x. Front free (Per.constrained al x t.2) a b) s t.4) h).0 in
      let r : v ≡ low +ℤ pos d = t.3 ∙ ap (λ x. low +ℤ pos x) q in
      false≢true (sym w ∙ ap (is_within wide_range) (sym r) ∙ i.0)

  pub between_answer : (al : Bool) (r : Result ℤ DecodeError) (low low' high : ℤ) (span d : ℕ) (a b : Position) → low' ≡ low →
      high ≡ low +ℤ pos span → IfOk r (λ v. v ≡ low' +ℤ pos d) → OnOk r (is_within wide_range (low' +ℤ pos d) ≡ true) → Front free (Per.constrained al span d) a b
      → IfOk r (λ v. Front free (in_128_bits (Per.whole_number al (Some low) (Some high)) v) a b)
  between_answer al (Ok v) low low' high span d a b q e f w g = between_read al low high v span d a b e (f ∙ ap (λ z. z +ℤ pos d) q) (ap (is_within wide_range) f ∙ w) g
  between_answer al (Err x) low low' high span d a b q e f w g = tt

  pub between_refused : (al : Bool) (r : Result ℤ DecodeError) (low low' high : ℤ) (span d : ℕ) (a b : Position) → low' ≡ low →
      high ≡ low +ℤ pos span → OnErr r (is_within wide_range (low' +ℤ pos d) ≡ false) → IfErr r IsFresh → Front free (Per.constrained al span d) a b
      → IfErr r (Misses free (in_128_bits (Per.whole_number al (Some low) (Some high))) a)
  between_refused al (Ok v) low low' high span d a b q e w h g = tt
  between_refused al (Err x) low low' high span d a b q e w h g =
      none_misses free (in_128_bits (Per.whole_number al (Some low) (Some high))) a x h (between_outside al low high span d a b e (ap (λ z. is_within wide_range (z +ℤ pos d)) (sym q) ∙ w) g)

  -- ---- from a lower bound on
  pub from_read : (al : Bool) (low v : ℤ) (d : ℕ) (a b : Position) → v ≡ low +ℤ pos d → is_within wide_range v ≡ true →
      Front free (offset_form al d) a b → Front free (in_128_bits (Per.whole_number al (Some low) None) v) a b
  unfolding Per.whole_number
  from_read al low v d a b e w f = if_in free (is_within wide_range v) _ a b w (shifted_in (λ d. Per.semi_constrained al d) low v d a b e (if_out free (is_offset d) _ a b f).1)

  from_told : (al : Bool) (low v : ℤ) (a b : Position) → Front free (Per.whole_number al (Some low) None v) a b → (d : ℕ) × (v ≡ low +ℤ pos d) × Front free (Per.semi_constrained al d) a b
  unfolding Per.whole_number
  from_told al low v a b f = shifted_out (λ d. Per.semi_constrained al d) low v a b f

  pub from_missed : (al : Bool) (low : ℤ) (a : Position) → is_within wide_range low ≡ true → NoneStands free (offset_form al) a → NoneStands free (in_128_bits (Per.whole_number al (Some low) None)) a
  from_missed al low a w n v b f =
      let i = if_out free (is_within wide_range v) _ a b f in
      let t = from_told al low v a b i.1 in
      let e = t.1 in
      let l = at_most_told (negsuc (2 ^ 127 - 1)) low (and_parts (is_at_most (negsuc (2 ^ 127 - 1)) low) (is_at_most low (pos (2 ^ 127 - 1))) w).0 in
      let u : v ≤ℤ pos (2 ^ 127 - 1) = at_most_told v (pos (2 ^ 127 - 1)) (and_parts (is_at_most (negsuc (2 ^ 127 - 1)) v) (is_at_most v (pos (2 ^ 127 - 1))) i.0).1 in
      let s : t.0 < 2 ^ 128 = omega (arith, ints, e, l, u) in
      n t.0 b (if_in free (is_offset t.0) _ a b (lt-ltb t.0 (2 ^ 128) s) t.2)

  pub from_outside : (al : Bool) (low : ℤ) (d : ℕ) (a c : Position) → is_within wide_range (low +ℤ pos d) ≡ false →
      Front free (offset_form al d) a c → NoneStands free (in_128_bits (Per.whole_number al (Some low) None)) a
  from_outside al low d a c w h v b f =
      let i = if_out free (is_within wide_range v) _ a b f in
      let t = from_told al low v a b i.1 in
      let q : t.0 ≡ d = (same_fronts free (semi_alike free al t.0 d) a b c t.2 (if_out free (is_offset d) _ a c h).1).0 in
      let r : v ≡ low +ℤ pos d = t.1 ∙ ap (λ x. low +ℤ pos x) q in
      false≢true (sym w ∙ ap (is_within wide_range) (sym r) ∙ i.0)

  pub from_answer : (al : Bool) (r : Result ℤ DecodeError) (low low' : ℤ) (d : ℕ) (a b : Position) → low' ≡ low → IfOk r (λ v. v ≡ low' +ℤ pos d) →
      OnOk r (is_within wide_range (low' +ℤ pos d) ≡ true) → Front free (offset_form al d) a b → IfOk r (λ v. Front free (in_128_bits (Per.whole_number al (Some low) None) v) a b)
  from_answer al (Ok v) low low' d a b q f w g = from_read al low v d a b (f ∙ ap (λ z. z +ℤ pos d) q) (ap (is_within wide_range) f ∙ w) g
  from_answer al (Err x) low low' d a b q f w g = tt

  pub from_refused : (al : Bool) (r : Result ℤ DecodeError) (low low' : ℤ) (d : ℕ) (a b : Position) → low' ≡ low →
      OnErr r (is_within wide_range (low' +ℤ pos d) ≡ false) → IfErr r IsFresh → Front free (offset_form al d) a b → IfErr r (Misses free (in_128_bits (Per.whole_number al (Some low) None)) a)
  from_refused al (Ok v) low low' d a b q w h g = tt
  from_refused al (Err x) low low' d a b q w h g = none_misses free (in_128_bits (Per.whole_number al (Some low) None)) a x h
      (from_outside al low d a b (ap (λ z. is_within wide_range (z +ℤ pos d)) (sym q) ∙ w) g)

  -- ---- up to an upper bound
  pub up_to_read : (al : Bool) (high v : ℤ) (a b : Position) → v ≤ℤ high → Front free (in_128_bits (Per.unconstrained al) v) a b → Front free (in_128_bits (Per.whole_number al None (Some high)) v) a b
  unfolding Per.whole_number
  up_to_read al high v a b l f =
      let i = if_out free (is_within wide_range v) _ a b f in
      if_in free (is_within wide_range v) _ a b i.0 (if_in free (is_at_most v high) _ a b (at_most v high l) i.1)

  up_to_told : (al : Bool) (high v : ℤ) (a b : Position) → Front free (in_128_bits (Per.whole_number al None (Some high)) v) a b →
      (is_at_most v high ≡ true) × Front free (in_128_bits (Per.unconstrained al) v) a b
  unfolding Per.whole_number
  up_to_told al high v a b f =
      let i = if_out free (is_within wide_range v) _ a b f in
      let j = if_out free (is_at_most v high) _ a b i.1 in
      (j.0, if_in free (is_within wide_range v) _ a b i.0 j.1)

  pub up_to_missed : (al : Bool) (high : ℤ) (a : Position) → NoneStands free (in_128_bits (Per.unconstrained al)) a → NoneStands free (in_128_bits (Per.whole_number al None (Some high))) a
  up_to_missed al high a n v b f = n v b (up_to_told al high v a b f).1

  wide_alike : (al : Bool) (v w : ℤ) (a b c : Position) → Front free (in_128_bits (Per.unconstrained al) v) a b → Front free (in_128_bits (Per.unconstrained al) w) a c → v ≡ w
  wide_alike al v w a b c f g = (same_fronts free (unconstrained_alike free al v w) a b c (if_out free (is_within wide_range v) _ a b f).1 (if_out free (is_within wide_range w) _ a c g).1).0

  pub up_to_above : (al : Bool) (high v : ℤ) (a c : Position) → high <ℤ v → Front free (in_128_bits (Per.unconstrained al) v) a c →
      NoneStands free (in_128_bits (Per.whole_number al None (Some high))) a
  up_to_above al high v a c l h w b f =
      let t = up_to_told al high w a b f in
      let e = wide_alike al w v a b c t.1 h in
      false≢true (sym (not_at_most v high l) ∙ ap (λ z. is_at_most z high) (sym e) ∙ t.0)

  pub wide_in_front : (x : ℤ → Per.BitForm) (v : ℤ) (a b : Position) → Front free (in_128_bits x v) a b → FitsSigned w128 v
  wide_in_front x v a b f = wide_told v (if_out free (is_within wide_range v) _ a b f).0

  -- ---- without bounds
  pub unbounded_read : (al : Bool) (v : ℤ) (a b : Position) → Front free (in_128_bits (Per.unconstrained al) v) a b → Front free (in_128_bits (Per.whole_number al None None) v) a b
  unfolding Per.whole_number
  unbounded_read al v a b f = f

  pub unbounded_missed : (al : Bool) (a : Position) → NoneStands free (in_128_bits (Per.unconstrained al)) a → NoneStands free (in_128_bits (Per.whole_number al None None)) a
  unfolding Per.whole_number
  unbounded_missed al a n v b f = n v b f

  -- ---- by bounds, a number is within them
  whole_within : (al : Bool) (low high : Option ℤ) (v : ℤ) (a b : Position) → Front free (Per.whole_number al low high v) a b →
      ((option_map_or (λ x. is_at_most x v) low true) && (option_map_or (λ x. is_at_most v x) high true)) ≡ true
  unfolding Per.whole_number Per.constrained Per.constrained_in
  whole_within al (Some low) (Some high) v a b f =
      let t = between_told al low high v a b f in
      let s = t.1 in
      let e = t.3 in
      let l = leb-true t.2 t.0 (if_out free (leb t.2 t.0) _ a b t.4).0 in
      and_from _ _ (at_most low v (omega (arith, ints, e))) (at_most v high (omega (arith, ints, e, s, l)))
  whole_within al (Some low) None v a b f = let t = from_told al low v a b f in let e = t.1 in and_from _ _ (at_most low v (omega (arith, ints, e))) refl
  whole_within al None (Some high) v a b f = (if_out free (is_at_most v high) _ a b f).0
  whole_within al None None v a b f = refl

  -- ---- the extension bit
  bits_same : (x y : Bool) (a b c : Position) → Front free (one_bit x) a b → Front free (one_bit y) a c → (x ≡ y) × (b ≡ c)
  bits_same x y a b c f g = same_fronts free (agree_first free (λ e. agree_map free (λ u. e) (agree_nothing free))) a b c f g

  -- what the extension bit leads to, by whether there is one
  module _ (al : Bool) (b : Bounded ℤ) (v : ℤ) where
    abbrev root : Per.BitForm
    root = Per.whole_number al (lower b) (upper b) v

    abbrev extensible_form : Bool → Per.BitForm
    extensible_form m = Per.with_extension_bit m (is_within (range_of b) v) root (Per.unconstrained al v)

    abbrev behind : Bool → Per.BitForm
    behind out = cond out (Per.unconstrained al v) root

    plain_in : (m : Bool) (a c : Position) → m ≡ false → Front free root a c → Front free (extensible_form m) a c
    unfolding Per.with_extension_bit
    plain_in false a c e f = if_in free (is_within (range_of b) v) _ a c (whole_within al (lower b) (upper b) v a c f) f
    plain_in true a c e f = absurd (false≢true (sym e))

    plain_out : (m : Bool) (a c : Position) → m ≡ false → Front free (extensible_form m) a c → Front free root a c
    unfolding Per.with_extension_bit
    plain_out false a c e f = (if_out free (is_within (range_of b) v) _ a c f).1
    plain_out true a c e f = absurd (false≢true (sym e))

    abbrev by_extension_bit : Bool → Per.BitForm
    by_extension_bit out = cond out (both (exactly (true ∷ [])) (Per.unconstrained al v)) (only_if (is_within (range_of b) v) (both (exactly (false ∷ [])) root))

    extensible_in : (m out : Bool) (a mid c : Position) → m ≡ true → may_be_outside (free Per.root_told_outside) out (is_within (range_of b) v)
        ≡ true → Front free (one_bit out) a mid → Front free (behind out) mid c → Front free (extensible_form m) a c
    unfolding Per.with_extension_bit
    extensible_in true true a mid c e t f g = varied_in free by_extension_bit true (elim (or_free _ _ t) [ inl z ↦ inl (sym z) | inr z ↦ inr z ]) a c (join free _ _ a mid c f g)
    extensible_in true false a mid c e t f g =
        let w = whole_within al (lower b) (upper b) v mid c g in
        varied_in free by_extension_bit false (inl (ap not (sym w))) a c (if_in free (is_within (range_of b) v) _ a c w (join free _ _ a mid c f g))
    extensible_in false out a mid c e t f g = absurd (false≢true e)

    split_extension_bit : (out : Bool) (a c : Position) → Front free (by_extension_bit out) a c → (mid : Position) × Front free (one_bit out) a mid × Front free (behind out) mid c
    split_extension_bit true a c f = split free _ _ a c f
    split_extension_bit false a c f = split free _ _ a c (if_out free (is_within (range_of b) v) _ a c f).1

    extensible_out : (m out : Bool) (a mid c : Position) → m ≡ true → Front free (one_bit out) a mid → Front free (extensible_form m) a c → Front free (behind out) mid c
    unfolding Per.with_extension_bit
    extensible_out true out a mid c e f g =
        let q = varied_out free by_extension_bit a c g in
        let s = split_extension_bit q.0 a c q.2 in
        let t = bits_same q.0 out a s.0 mid s.1 f in
        subst (λ o. Front free (behind o) mid c) t.0 (subst (λ p. Front free (behind q.0) p c) t.1 s.2)
    extensible_out false out a mid c e f g = absurd (false≢true e)

    -- the extension bit of a number of the root
    extension_bit_told : (m : Bool) (a mid c : Position) → m ≡ true → Front free (one_bit true) a mid → Front free (extensible_form m) a c →
        (is_within (range_of b) v ≡ false) ⊎ IsTrue (free Per.root_told_outside)
    unfolding Per.with_extension_bit
    extension_bit_told true a mid c e f g =
        let q = varied_out free by_extension_bit a c g in
        let s = split_extension_bit q.0 a c q.2 in
        let t = bits_same q.0 true a s.0 mid s.1 f in
        elim q.1 [ inl i ↦ inl (is_not (is_within (range_of b) v) (sym i ∙ t.0)) | inr i ↦ inr i ]
    extension_bit_told false a mid c e f g = absurd (false≢true e)

    some_extension_bit : (m : Bool) (a c : Position) → m ≡ true → Front free (extensible_form m) a c → (out : Bool) × (mid : Position) × Front free (one_bit out) a mid
    unfolding Per.with_extension_bit
    some_extension_bit true a c e f =
        let q = varied_out free by_extension_bit a c f in
        let s = split_extension_bit q.0 a c q.2 in
        (q.0, s.0, s.1)
    some_extension_bit false a c e f = absurd (false≢true e)

  abbrev Constrained : Type 0
  Constrained = Extensible Constraint.Value

  pub inextensible_read : (al : Bool) (c : Constrained) (v : ℤ) (a b : Position) → has_additions c ≡ false →
      Front free (in_128_bits (Per.whole_number al (lower c.constraint.value) (upper c.constraint.value)) v) a b → Front free (in_128_bits (under_constraint al c) v) a b
  inextensible_read al c v a b e f =
      let i = if_out free (is_within wide_range v) _ a b f in
      if_in free (is_within wide_range v) _ a b i.0 (plain_in al c.constraint.value v (has_additions c) a b e i.1)

  pub inextensible_missed : (al : Bool) (c : Constrained) (a : Position) → has_additions c ≡ false →
      NoneStands free (in_128_bits (Per.whole_number al (lower c.constraint.value) (upper c.constraint.value))) a → NoneStands free (in_128_bits (under_constraint al c)) a
  inextensible_missed al c a e n v b f =
      let i = if_out free (is_within wide_range v) _ a b f in
      n v b (if_in free (is_within wide_range v) _ a b i.0 (plain_out al c.constraint.value v (has_additions c) a b e i.1))

  pub extensible_read : (al : Bool) (c : Constrained) (out : Bool) (v : ℤ) (a mid b : Position) → has_additions c ≡ true →
      may_be_outside (free Per.root_told_outside) out (is_within (range_of c.constraint.value) v) ≡ true → Front free (one_bit out) a mid →
      Front free (in_128_bits (behind_extension_bit al out c.constraint.value) v) mid b → Front free (in_128_bits (under_constraint al c) v) a b
  extensible_read al c out v a mid b e t f g =
      let i = if_out free (is_within wide_range v) _ mid b g in
      if_in free (is_within wide_range v) _ a b i.0 (extensible_in al c.constraint.value v (has_additions c) out a mid b e t f i.1)

  pub extensible_missed : (al : Bool) (c : Constrained) (out : Bool) (a mid : Position) → has_additions c ≡ true → Front free (one_bit out) a mid →
      NoneStands free (in_128_bits (behind_extension_bit al out c.constraint.value)) mid → NoneStands free (in_128_bits (under_constraint al c)) a
  extensible_missed al c out a mid e f n v b g =
      let i = if_out free (is_within wide_range v) _ a b g in
      n v b (if_in free (is_within wide_range v) _ mid b i.0 (extensible_out al c.constraint.value v (has_additions c) out a mid b e f i.1))

  -- an extension bit that the reader does not accept
  pub extensible_refused : (al : Bool) (c : Constrained) (out : Bool) (v : ℤ) (a mid b : Position) →
      may_be_outside (free Per.root_told_outside) out (is_within (range_of c.constraint.value) v) ≡ false → has_additions c ≡ true →
      Front free (one_bit out) a mid → Front free (in_128_bits (behind_extension_bit al out c.constraint.value) v) mid b → NoneStands free (in_128_bits (under_constraint al c)) a
  extensible_refused al c false v a mid b t e f g w d h = false≢true (sym t ∙ free_or (free Per.root_told_outside) true (inl refl))
  extensible_refused al c true v a mid b t e f g w d h =
      let i = if_out free (is_within wide_range w) _ a d h in
      let r = extensible_out al c.constraint.value w (has_additions c) true a mid d e f i.1 in
      let q = (same_fronts free (unconstrained_alike free al w v) mid d b r (if_out free (is_within wide_range v) _ mid b g).1).0 in
      let o = extension_bit_told al c.constraint.value w (has_additions c) a mid d e f i.1 in
      let may : (not (is_within (range_of c.constraint.value) v) ≡ true) ⊎ IsTrue (free Per.root_told_outside) =
      elim o [ inl z ↦ inl (ap not (ap (is_within (range_of c.constraint.value)) (sym q) ∙ z)) | inr z ↦ inr z ] in
      false≢true (sym t ∙ free_or _ _ may)

  pub extension_bit_missed : (al : Bool) (c : Constrained) (a : Position) → has_additions c ≡ true → NoneStands free one_bit a → NoneStands free (in_128_bits (under_constraint al c)) a
  extension_bit_missed al c a e n v b g =
      let i = if_out free (is_within wide_range v) _ a b g in
      let s = some_extension_bit al c.constraint.value v (has_additions c) a b e i.1 in
      n s.0 s.1 s.2
