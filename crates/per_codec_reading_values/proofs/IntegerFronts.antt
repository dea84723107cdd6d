-- Bits that begin with an INTEGER.
use Rattle.asn1_model.specs.Schema.{wide_range}
use Rattle.std.proofs.Common.{◌≡◌, ℕ, ◌-◌, ◌^◌, not, ℤ, pos, negsuc, Bool, true, false, ◌&&◌, ◌||◌, ◌⊎◌, inl, inr}
use Rattle.std.proofs.Common.{Option, Some, None, Result, Ok, Err, IfOk, OnOk, IfErr, List, refl, sym, ap, ◌∙◌, subst}
use Rattle.std.proofs.Common.{arith}
use Rattle.std.proofs.lemmas.Bool.{false≢true, le-leb, and_parts, and_from}
use Rattle.std.proofs.Math.Bool.{or-true}
use Rattle.asn1_model.specs.Schema.{Range, integer}
use Rattle.asn1_model.specs.Value.{Value, number}
use Rattle.asn1_model.specs.Numbers.{signed_octets, is_at_most, is_within, fits_128}
use Rattle.asn1_model.specs.Normal.{is_bounded}
use Rattle.asn1_model.specs.Per
use Rattle.asn1_laws_values.proofs.Numbers.{at_most_pos, at_most_negsuc}
use Rattle.asn1_values_natives.specs.Octets.{signed_number}
use Rattle.asn1_values_natives.proofs.Widths.{signed_octets-le}
use Rattle.asn1_schema_constraints.specs.Bounds.{later, earlier}
use Rattle.asn1_schema_constraints.proofs.Common.{number_order}
use Rattle.asn1_schema_constraints.proofs.Meets.{is_above, is_below, later_admits, earlier_admits}
use Rattle.asn1_schema_constraints.specs.Terms.{bounds_of, held_of}
use Rattle.asn1_schema_constraints.specs.declared.extensions.Extensible.{Extensible}
use Rattle.asn1_schema_constraints.specs.declared.parts.Value as Constraint
use Rattle.asn1_schema_errors.specs.declared.DecodeError.{DecodeError}
use Rattle.asn1_schema_errors.specs.declared.DecodeError.TheVariants.{OutOfMemory}
use Rattle.asn1_laws_fronts.proofs.PerNumbers.{integer_alike}
use Rattle.per_codec_laws.specs.Takes.{Position, Front}
use Rattle.per_codec_laws.proofs.Fronts.{if_in, if_out, of_refused}
use Rattle.per_codec_laws.proofs.Next.{same_fronts}
use Rattle.per_codec_reading.specs.Fronts.{NoneStands, IsFresh, Misses}
use Rattle.per_codec_reading.proofs.Fronts.{none_misses}
use Rattle.per_codec_reading_values.specs.Integers.{number_octets, in_128_bits, under_constraint}
use Rattle.per_codec_reading_values.proofs.OctetFronts.{number_read, none_signed, signed_same}
use Rattle.std.specs.Option.{option_map_or}

-- ---- the numbers that are held under a constraint
from_is : (low : Option ℤ) (v : ℤ) → option_map_or (λ x. is_at_most x v) low true ≡ is_above is_at_most low v
from_is None v = refl
from_is (Some a) v = refl

to_is : (high : Option ℤ) (v : ℤ) → option_map_or (λ x. is_at_most v x) high true ≡ is_below is_at_most high v
to_is None v = refl
to_is (Some a) v = refl

regroup : (a b c d : Bool) → ((a && b) && (c && d)) ≡ ((a && c) && (b && d))
regroup true true c d = refl
regroup true false true d = refl
regroup true false false d = refl
regroup false b c d = refl

both_by : {p p' q q' : Bool} → p ≡ p' → q ≡ q' → (p && q) ≡ (p' && q')
both_by {p} {p'} {q} {q'} e f = ap (λ t. t && q) e ∙ ap (λ t. p' && t) f

held_within : (c : Extensible Constraint.Value) (h : Range) (v : ℤ) → is_within (held_of (Some c) h) v ≡ (is_within h v && is_within wide_range v)
held_within c h v =
    both_by (from_is (later is_at_most h.low wide_range.low) v ∙ (later_admits is_at_most number_order h.low wide_range.low v ∙ sym (both_by (from_is h.low v) (from_is wide_range.low v))))
    (to_is (earlier is_at_most h.high wide_range.high) v ∙ (earlier_admits is_at_most number_order h.high wide_range.high v ∙ sym (both_by (to_is h.high v) (to_is wide_range.high v))))
    ∙ regroup (option_map_or (λ x. is_at_most x v) h.low true) (option_map_or (λ x. is_at_most x v) wide_range.low true)
    (option_map_or (λ x. is_at_most v x) h.high true) (option_map_or (λ x. is_at_most v x) wide_range.high true)

wide_fits : (v : ℤ) → is_within wide_range v ≡ true → fits_128 v ≡ true
wide_fits (pos n) h =
    let l = at_most_pos n (2 ^ 127 - 1) (and_parts (is_at_most (negsuc (2 ^ 127 - 1)) (pos n)) (is_at_most (pos n) (pos (2 ^ 127 - 1))) h).1 in
    le-leb (signed_octets (pos n)) 16 (signed_octets-le (pos n) 15 (omega arith))
wide_fits (negsuc n) h =
    let l = at_most_negsuc (2 ^ 127 - 1) n (and_parts (is_at_most (negsuc (2 ^ 127 - 1)) (negsuc n)) (is_at_most (negsuc n) (pos (2 ^ 127 - 1))) h).0 in
    le-leb (signed_octets (negsuc n)) 16 (signed_octets-le (negsuc n) 15 (omega arith))

module _ (free : Per.Freedom → Bool) (al : Bool) where
  abbrev pub Integer : Option (Extensible Constraint.Value) → Range → Value → Per.BitForm
  Integer c h u = Per.form al (integer (bounds_of c) (held_of c h)) u

  -- ---- without a constraint
  plain_in : (h : Range) (v : ℤ) (a b : Position) → is_within h v ≡ true → Front free (Per.unconstrained al v) a b → Front free (Integer None h (number v)) a b
  unfolding Per.form Per.integer_form Per.with_extension_bit Per.whole_number
  plain_in h v a b w f = if_in free (is_within h v && (not (is_bounded (bounds_of None)) || fits_128 v)) _ a b (and_from _ _ w refl) f

  plain_out : (h : Range) (u : Value) (a b : Position) → Front free (Integer None h u) a b → (v : ℤ) × (is_within h v ≡ true) × Front free (Per.unconstrained al v) a b
  unfolding Per.form Per.integer_form Per.with_extension_bit Per.whole_number
  plain_out h (number v) a b f =
      let i = if_out free (is_within h v && (not (is_bounded (bounds_of None)) || fits_128 v)) _ a b f in
      (v, (and_parts _ _ i.0).0, i.1)
  plain_out h u a b f = absurd (of_refused free a b f)

  pub no_plain : (h : Range) (a : Position) → NoneStands free (number_octets (free Per.longer_number) true al) a → NoneStands free (Integer None h) a
  no_plain h a n u b f = let p = plain_out h u a b f in none_signed free al a n p.0 b p.2

  pub plain_read : {X : Type 0} (r : Result X DecodeError) (value : X → ℤ) (h : Range) (os : List ℕ) (a b : Position) →
      IfOk r (λ x. value x ≡ signed_number os) → OnOk r (is_within h (signed_number os) ≡ true) → Front free (number_octets (free Per.longer_number) true al os) a b
      → IfOk r (λ x. Front free (Integer None h (number (value x))) a b)
  plain_read (Ok x) value h os a b e w f = plain_in h (value x) a b (ap (is_within h) e ∙ w) (number_read free al (value x) os a b e f)
  plain_read (Err e) value h os a b n w f = tt

  plain_outside : (h : Range) (os : List ℕ) (a b : Position) → is_within h (signed_number os) ≡ false →
      Front free (number_octets (free Per.longer_number) true al os) a b → NoneStands free (Integer None h) a
  plain_outside h os a b w f u c g =
      let p = plain_out h u a c g in
      false≢true (sym w ∙ ap (is_within h) (sym (signed_same free al p.0 os a b c f p.2)) ∙ p.1)

  pub plain_refused : {X : Type 0} (r : Result X DecodeError) (h : Range) (os : List ℕ) (a b : Position) →
      IfErr r (λ e. (e ≡ OutOfMemory) ⊎ (is_within h (signed_number os) ≡ false)) → IfErr r IsFresh →
      Front free (number_octets (free Per.longer_number) true al os) a b → IfErr r (Misses free (Integer None h) a)
  plain_refused (Ok x) h os a b n k f = tt
  plain_refused (Err e) h os a b (inl m) k f = subst (Misses free (Integer None h) a) (sym m) tt
  plain_refused (Err e) h os a b (inr m) k f = none_misses free (Integer None h) a e k (plain_outside h os a b m f)

  -- ---- under a constraint
  module _ (c : Extensible Constraint.Value) where
    bounded_in : (h : Range) (v : ℤ) (a b : Position) → is_within h v ≡ true → Front free (in_128_bits (under_constraint al c) v) a b → Front free (Integer (Some c) h (number v)) a b
    unfolding Per.form Per.integer_form
    bounded_in h v a b w f =
        let i = if_out free (is_within wide_range v) _ a b f in
        let held = held_within c h v ∙ and_from _ _ w i.0 in
        if_in free (is_within (held_of (Some c) h) v && (not (is_bounded (bounds_of (Some c))) || fits_128 v)) _ a b
        (and_from _ _ held (ap (λ t. not (is_bounded (bounds_of (Some c))) || t) (wide_fits v i.0) ∙ or-true (not (is_bounded (bounds_of (Some c)))))) i.1

    bounded_out : (h : Range) (u : Value) (a b : Position) → Front free (Integer (Some c) h u) a b → (v : ℤ) × (is_within h v ≡ true) × Front free (in_128_bits (under_constraint al c) v) a b
    unfolding Per.form Per.integer_form
    bounded_out h (number v) a b f =
        let i = if_out free (is_within (held_of (Some c) h) v && (not (is_bounded (bounds_of (Some c))) || fits_128 v)) _ a b f in
        let p = and_parts (is_within h v) (is_within wide_range v) (sym (held_within c h v) ∙ (and_parts _ _ i.0).0) in
        (v, p.0, if_in free (is_within wide_range v) _ a b p.1 i.1)
    bounded_out h u a b f = absurd (of_refused free a b f)

    pub in_wide : (v : ℤ) (a b : Position) → Front free (in_128_bits (under_constraint al c) v) a b → Front free (Per.integer_form al (bounds_of (Some c)) wide_range v) a b
    unfolding Per.integer_form
    in_wide v a b f =
        let i = if_out free (is_within wide_range v) _ a b f in
        if_in free (is_within wide_range v && (not (is_bounded (bounds_of (Some c))) || fits_128 v)) _ a b
        (and_from _ _ i.0 (ap (λ t. not (is_bounded (bounds_of (Some c))) || t) (wide_fits v i.0) ∙ or-true (not (is_bounded (bounds_of (Some c)))))) i.1

    pub out_wide : (v : ℤ) (a b : Position) → Front free (Per.integer_form al (bounds_of (Some c)) wide_range v) a b → Front free (in_128_bits (under_constraint al c) v) a b
    unfolding Per.integer_form
    out_wide v a b f =
        let i = if_out free (is_within wide_range v && (not (is_bounded (bounds_of (Some c))) || fits_128 v)) _ a b f in
        if_in free (is_within wide_range v) _ a b (and_parts _ _ i.0).0 i.1

    -- a number under a constraint is the one that was read
    same_number : (v w : ℤ) (a b d : Position) → Front free (in_128_bits (under_constraint al c) v) a b → Front free (in_128_bits (under_constraint al c) w) a d → v ≡ w
    same_number v w a b d f g = (same_fronts free (integer_alike free al (bounds_of (Some c)) wide_range v w) a b d (in_wide v a b f) (in_wide w a d g)).0

    pub no_bounded : (h : Range) (a : Position) → NoneStands free (in_128_bits (under_constraint al c)) a → NoneStands free (Integer (Some c) h) a
    no_bounded h a n u b f = let p = bounded_out h u a b f in n p.0 b p.2

    pub bounded_read : {X : Type 0} (r : Result X DecodeError) (value : X → ℤ) (h : Range) (v z : ℤ) (a b : Position) → z ≡ v →
        IfOk r (λ x. value x ≡ z) → OnOk r (is_within h z ≡ true) → Front free (in_128_bits (under_constraint al c) v) a b → IfOk r (λ x. Front free (Integer (Some c) h (number (value x))) a b)
    bounded_read (Ok x) value h v z a b q e w f = subst (λ z. Front free (Integer (Some c) h (number z)) a b) (sym (e ∙ q)) (bounded_in h v a b (ap (is_within h) (sym q) ∙ w) f)
    bounded_read (Err e) value h v z a b q n w f = tt

    bounded_outside : (h : Range) (v : ℤ) (a b : Position) → is_within h v ≡ false → Front free (in_128_bits (under_constraint al c) v) a b → NoneStands free (Integer (Some c) h) a
    bounded_outside h v a b w f u d g =
        let p = bounded_out h u a d g in
        false≢true (sym w ∙ ap (is_within h) (same_number v p.0 a b d f p.2) ∙ p.1)

    pub bounded_refused : {X : Type 0} (r : Result X DecodeError) (h : Range) (v z : ℤ) (a b : Position) → z ≡ v →
        IfErr r (λ e. (e ≡ OutOfMemory) ⊎ (is_within h z ≡ false)) → IfErr r IsFresh → Front free (in_128_bits (under_constraint al c) v) a b → IfErr r (Misses free (Integer (Some c) h) a)
    bounded_refused (Ok x) h v z a b q n k f = tt
    bounded_refused (Err e) h v z a b q (inl m) k f = subst (Misses free (Integer (Some c) h) a) (sym m) tt
    bounded_refused (Err e) h v z a b q (inr m) k f = none_misses free (Integer (Some c) h) a e k (bounded_outside h v a b (ap (is_within h) (sym q) ∙ m) f)
