-- The bits with which a number in the form of its bounds begins.
use Rattle.std.specs.Prelude.{FitsSigned, ◌+ℤ◌, ◌-ℤ◌, ◌≤ℤ◌, ◌<ℤ◌}
use Rattle.std.specs.Int.{w128}
use Rattle.std.proofs.Common.{◌≡◌, ℕ, ◌^◌, ◌<◌, ◌≤◌, max, ℤ, pos, negsuc, Bool, inl, inr, Some, None, refl, arith}
use Rattle.std.proofs.lemmas.Int.{ints}
use Rattle.std.proofs.lemmas.Bool.{cases_lt}
use Rattle.std.proofs.Math.Nat.{pow-le-pow_right}
use Rattle.asn1_model.specs.Schema.{wide_range, integer}
use Rattle.asn1_model.specs.Value.{number}
use Rattle.asn1_model.specs.Numbers.{octet_width, signed_octets}
use Rattle.asn1_model.specs.Oer.{fixed_octets}
use Rattle.asn1_model.specs.Per
use Rattle.asn1_values_natives.proofs.Widths.{octet_width-octets, signed_octets-above}
use Rattle.asn1_schema_constraints.specs.Widths.{fixed_width}
use Rattle.asn1_schema_constraints.specs.declared.bounds.Bounded.TheVariants.{Range as Between}
use Rattle.asn1_schema_constraints.specs.declared.extensions.Extensible.{Extensible}
use Rattle.asn1_schema_constraints.specs.declared.parts.Value as Constraint
use Rattle.asn1_schema_constraints.proofs.WidthLaws.{more}
use Rattle.asn1_schema_forms.specs.Forms.{form_bounds}
use Rattle.asn1_schema_forms.specs.declared.number.NumberForm.{NumberForm}
use Rattle.per_codec_laws.specs.Takes.{Position, Front}
use Rattle.per_codec_laws.proofs.Fronts.{of_refused}
use Rattle.per_codec_reading.specs.Fronts.{NoneStands}
use Rattle.per_codec_reading_values.specs.Integers.{in_128_bits}
use Rattle.per_codec_reading_values.proofs.WholeFronts.{fits_wide, between_read, inextensible_read, inextensible_missed}
use Rattle.per_codec_reading_values.proofs.IntegerFronts.{in_wide, out_wide}

-- ---- numbers whose bounds have at most eight octets

few_octets : (k w : ℕ) → fixed_octets k ≡ Some w → k ≤ 8
few_octets k w e = elim (cases_lt 8 k) [
  | inl l ↦ let n = more k l in cc
  | inr g ↦ g
]

below_octets : (n : ℕ) → octet_width n ≤ 8 → n < 2 ^ 64
below_octets n h =
    let p : 256 ^ octet_width n ≤ 256 ^ 8 = pow-le-pow_right (omega arith) h in
    let b = (octet_width-octets n).below in
    omega (arith, p, b)

below_signed : (n : ℕ) → signed_octets (pos n) ≤ 8 → n < 2 ^ 63
below_signed n h =
    let a : 2 ^ 63 ≤ n → 9 ≤ signed_octets (pos n) = signed_octets-above (pos n) 7 in
    grind arith

high_below : (low high : ℤ) (w : ℕ) → fixed_width (Some low) (Some high) ≡ Some w → high <ℤ pos (2 ^ 64)
high_below (pos low) (pos high) w e = let b = below_octets high (few_octets _ w e) in omega (arith, ints, b)
high_below (negsuc low) (pos high) w e =
    let f = few_octets (max (signed_octets (negsuc low)) (signed_octets (pos high))) w e in
    let b = below_signed high (omega (arith, f)) in
    omega (arith, ints, b)
high_below low (negsuc high) w e = omega (arith, ints)

-- between a number of 128 bits and 2 ^ 64
fits_between : (low v : ℤ) → FitsSigned w128 low → low ≤ℤ v → v <ℤ pos (2 ^ 64) → FitsSigned w128 v
fits_between low (pos n) f l b = record { sfits = omega (arith, ints, b) }
fits_between (pos low) (negsuc n) f l b = absurd (omega (arith, ints, l))
fits_between (negsuc low) (negsuc n) f l b = let s = f.sfits in record { sfits = omega (arith, ints, l, s) }

pub form_fits : (low high : ℤ) (span d w : ℕ) → FitsSigned w128 low → fixed_width (Some low) (Some high) ≡ Some w → pos span ≡ high -ℤ low → d ≤ span → FitsSigned w128 (low +ℤ pos d)
form_fits low high span d w f e s h =
    let b = high_below low high w e in
    fits_between low (low +ℤ pos d) f (omega (arith, ints)) (omega (arith, ints, b, s, h))

-- ---- an INTEGER between two bounds

module _ (free : Per.Freedom → Bool) (al : Bool) where
  pub form_read : (low high : ℤ) (span d : ℕ) (a b : Position) → pos span ≡ high -ℤ low → FitsSigned w128 (low +ℤ pos d) → Front free (Per.constrained al span d) a b →
      Front free (in_128_bits (Per.whole_number al (Some low) (Some high)) (low +ℤ pos d)) a b
  form_read low high span d a b s w f = between_read free al low high (low +ℤ pos d) span d a b (omega (arith, ints, s)) refl (fits_wide (low +ℤ pos d) w) f

  -- the constraint of a form
  abbrev constraint : NumberForm → Extensible Constraint.Value
  constraint form = record { constraint = record { value = Between (Some form.low) (Some form.high) }; extensible = None }

  pub form_in : (form : NumberForm) (v : ℤ) (a b : Position) → Front free (in_128_bits (Per.whole_number al (Some form.low) (Some form.high)) v) a b →
      Front free (Per.form al (integer (form_bounds form) wide_range) (number v)) a b
  unfolding Per.form
  form_in form v a b f = in_wide free al (constraint form) v a b (inextensible_read free al (constraint form) v a b refl f)

  pub no_form : (form : NumberForm) (a : Position) → NoneStands free (in_128_bits (Per.whole_number al (Some form.low) (Some form.high))) a →
      NoneStands free (Per.form al (integer (form_bounds form) wide_range)) a
  unfolding Per.form
  no_form form a n (number v) b f = inextensible_missed free al (constraint form) a refl n v b (out_wide free al (constraint form) v a b f)
  no_form form a n u b f = absurd (of_refused free a b f)
