-- Octets that begin with an INTEGER between two bounds, in its form.
use Rattle.asn1_model.specs.Schema.{wide_range}
use Rattle.std.specs.Prelude.{max, FitsSigned, ◌<ℤ◌, ◌≤ℤ◌}
use Rattle.std.specs.Int.{w128}
use Rattle.std.proofs.Common.{◌≡◌, ℕ, ◌-◌, ◌^◌, ◌≤◌, leb, ℤ, pos, negsuc, Bool, true, false, cond, ◌⊎◌, inl, inr}
use Rattle.std.proofs.Common.{Some, None, List, length, refl, sym, ◌∙◌, subst, arith}
use Rattle.std.proofs.lemmas.Int.{ints}
use Rattle.std.proofs.lemmas.Bool.{false≢true, and_parts}
use Rattle.asn1_model.specs.Schema.{integer}
use Rattle.asn1_model.specs.Value.{number}
use Rattle.asn1_model.specs.Numbers.{octet_width, signed_octets, is_at_most, is_within}
use Rattle.asn1_model.specs.Oer.{form}
use Rattle.asn1_values_natives.specs.Octets.{own_number}
use Rattle.asn1_values_natives.proofs.RangeLaws.{at_most, not_at_most}
use Rattle.asn1_schema_constraints.specs.Widths.{has_sign, fixed_width}
use Rattle.asn1_schema_constraints.proofs.Common.{both_by}
use Rattle.asn1_schema_constraints.proofs.Held.{wide_fits}
use Rattle.asn1_schema_forms.specs.Forms.{form_bounds}
use Rattle.asn1_schema_forms.specs.declared.number.NumberForm.{NumberForm}
use Rattle.oer_codec_reading.specs.declared.rules.EncodingRules.{EncodingRules}
use Rattle.oer_codec_reading.specs.Fronts.{freedoms, Stands, FrontOf, NoneStands}
use Rattle.oer_codec_reading.specs.Integers.{number_in}
use Rattle.oer_codec_reading.specs.Sized.{sized}
use Rattle.oer_codec_reading.proofs.SizedFronts.{sized_text}
use Rattle.oer_codec_reading.proofs.WholeFronts.{no_octets, number_read}
use Rattle.oer_codec_reading.proofs.IntegerFronts.{integer_front, integer_stands, other_number}

-- ---- the number of octets

some_octets : (k : ℕ) (a b c d : Bool) → Some k ≡ cond a (Some 1) (cond b (Some 2) (cond c (Some 4) (cond d (Some 8) None))) → (1 ≤ k) × (k ≤ 8)
some_octets k true b c d e = let q : k ≡ 1 = cc in (omega arith, omega arith)
some_octets k false true c d e = let q : k ≡ 2 = cc in (omega arith, omega arith)
some_octets k false false true d e = let q : k ≡ 4 = cc in (omega arith, omega arith)
some_octets k false false false true e = let q : k ≡ 8 = cc in (omega arith, omega arith)
some_octets k false false false false e = cc

octets_within : (low high : ℤ) (k : ℕ) → Some k ≡ fixed_width (Some low) (Some high) → (1 ≤ k) × (k ≤ 8)
octets_within (pos low) (pos high) k e = let n = octet_width high in some_octets k (leb n 1) (leb n 2) (leb n 4) (leb n 8) e
octets_within (pos low) (negsuc high) k e = cc
octets_within (negsuc low) high k e =
    let n = max (signed_octets (negsuc low)) (signed_octets high) in some_octets k (leb n 1) (leb n 2) (leb n 4) (leb n 8) e

-- ---- numbers of 128 bits, and between the bounds

fits_wide : (v : ℤ) → FitsSigned w128 v → is_within wide_range v ≡ true
fits_wide (pos n) h = let l = h.sfits in
    both_by (at_most (negsuc (2 ^ 127 - 1)) (pos n) (omega (arith, ints))) (at_most (pos n) (pos (2 ^ 127 - 1)) (omega (arith, ints, l)))
fits_wide (negsuc n) h = let l = h.sfits in
    both_by (at_most (negsuc (2 ^ 127 - 1)) (negsuc n) (omega (arith, ints, l))) (at_most (negsuc n) (pos (2 ^ 127 - 1)) (omega (arith, ints)))

outside : (low high v : ℤ) → (v <ℤ low) ⊎ (high <ℤ v) → is_within (record { low = Some low; high = Some high }) v ≡ true → ⊥
outside low high v (inl l) e = false≢true (sym (not_at_most low v l) ∙ (and_parts (is_at_most low v) (is_at_most v high) e).0)
outside low high v (inr l) e = false≢true (sym (not_at_most v high l) ∙ (and_parts (is_at_most low v) (is_at_most v high) e).1)

-- ---- what read_in_form returns

module _ (r : EncodingRules) (f : NumberForm) (k : ℕ) (w : List ℕ) (width : Some k ≡ fixed_width (Some f.low) (Some f.high)) where
  pub few_octets : (os rest : List ℕ) → Stands (freedoms r) (sized (Some k) os) w rest → length os ≤ 8
  few_octets os rest h = let t = sized_text (freedoms r) k os w rest h in let b = octets_within f.low f.high k width in omega (arith, t.0, b.1)

  number_told : (os rest : List ℕ) (sign : Bool) (v : ℤ) → Stands (freedoms r) (sized (Some k) os) w rest → sign ≡ has_sign (Some f.low) → v ≡ own_number sign os →
      Stands (freedoms r) (number_in (has_sign (Some f.low)) (fixed_width (Some f.low) (Some f.high)) v) w rest
  number_told os rest sign v h s e =
      let t = sized_text (freedoms r) k os w rest h in
      let b = octets_within f.low f.high k width in
      let n = number_read r sign (Some k) w os rest (omega (arith, t.0, b.0)) h refl in
      subst (λ o. Stands (freedoms r) (number_in (has_sign (Some f.low)) o v) w rest) width
      (subst (λ g. Stands (freedoms r) (number_in g (Some k) v) w rest) s (subst (λ z. Stands (freedoms r) (number_in sign (Some k) z) w rest) (sym e) n))

  pub form_read : (os rest : List ℕ) (sign : Bool) (v : ℤ) → Stands (freedoms r) (sized (Some k) os) w rest → sign ≡ has_sign (Some f.low) → v ≡ own_number sign os →
      FitsSigned w128 v → f.low ≤ℤ v → v ≤ℤ f.high → FrontOf (freedoms r) (integer (form_bounds f) wide_range) (number v) w rest
  form_read os rest sign v h s e i l m =
      let wide = fits_wide v i in
      integer_stands (freedoms r) (form_bounds f) wide_range v w rest wide (wide_fits v wide) (both_by (at_most f.low v l) (at_most v f.high m)) (number_told os rest sign v h s e)

  pub form_outside : (os rest : List ℕ) (sign : Bool) (v : ℤ) → Stands (freedoms r) (sized (Some k) os) w rest → sign ≡ has_sign (Some f.low) → v ≡ own_number sign os →
      (v <ℤ f.low) ⊎ (f.high <ℤ v) → NoneStands (freedoms r) (form (integer (form_bounds f) wide_range)) w
  form_outside os rest sign v h s e o = other_number (freedoms r) (form_bounds f) wide_range v w rest (λ x y. outside f.low f.high v o y) (number_told os rest sign v h s e)

  pub form_missed : NoneStands (freedoms r) (sized (Some k)) w → NoneStands (freedoms r) (form (integer (form_bounds f) wide_range)) w
  form_missed n u rest h =
      let i = integer_front (freedoms r) (form_bounds f) wide_range u w rest h in
      no_octets r (has_sign (Some f.low)) (Some k) w n i.0 rest
      (subst (λ o. Stands (freedoms r) (number_in (has_sign (Some f.low)) o i.0) w rest) (sym width) i.3)
