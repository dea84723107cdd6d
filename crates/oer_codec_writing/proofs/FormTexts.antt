-- The texts of INTEGER between two bounds, in its form.
use Rattle.asn1_model.specs.Schema.{wide_range}
use Rattle.std.specs.Prelude.{FitsSigned, ◌<ℤ◌, ◌≤ℤ◌}
use Rattle.std.specs.Int.{w128}
use Rattle.std.proofs.Common.{◌≡◌, ℕ, ◌++◌, ℤ, Bool, true, false, cond, not, ◌&&◌, ◌||◌, ◌⊎◌, inl, inr}
use Rattle.std.proofs.Common.{List, Some, None, of_z, refl, ap, sym, subst, ◌∙◌}
use Rattle.std.proofs.lemmas.Bool.{le-leb}
use Rattle.asn1_model.specs.Form.{written}
use Rattle.asn1_model.specs.Numbers.{digits, signed_octets, is_at_most, is_within, fits_128}
use Rattle.asn1_model.specs.Normal.{is_bounded}
use Rattle.asn1_model.specs.Oer
use Rattle.asn1_values_natives.proofs.RangeLaws.{at_most, not_at_most}
use Rattle.asn1_schema_constraints.specs.Widths.{has_sign, fixed_width}
use Rattle.asn1_schema_constraints.proofs.Common.{both_by}
use Rattle.asn1_schema_constraints.proofs.Held.{fits_wide}
use Rattle.asn1_schema_constraints.proofs.WidthLaws.{form_told}
use Rattle.asn1_schema_forms.specs.Forms.{form_bounds}
use Rattle.asn1_schema_forms.specs.declared.number.NumberForm.{NumberForm}
use Rattle.oer_codec_writing.specs.Writing.{Adds}
use Rattle.oer_codec_writing.proofs.DigitTexts.{few_held}
use Rattle.oer_codec_writing.proofs.ScalarTexts.{adds_same, if_true, if_false}
use Rattle.oer_codec_writing.proofs.IntegerTexts.{adds_fixed_signed, adds_fixed_natural, signed_width, width_few, natural_sign}

and_false : (a b : Bool) → b ≡ false → (a && b) ≡ false
and_false true b e = e
and_false false b e = refl

outside : (low high v : ℤ) → (v <ℤ low) ⊎ (high <ℤ v) → is_within (record { low = Some low; high = Some high }) v ≡ false
outside low high v (inl l) = ap (λ t. t && is_at_most v high) (not_at_most low v l)
outside low high v (inr l) = and_false (is_at_most low v) (is_at_most v high) (not_at_most v high l)

module _ (f : NumberForm) (v : ℤ) (fits : FitsSigned w128 v) where
  may_stand : (is_within wide_range v && (not (is_bounded (form_bounds f)) || fits_128 v)) ≡ true
  may_stand = let few : fits_128 v ≡ true = le-leb (signed_octets v) 16 (few_held v fits) in both_by (fits_wide v few) few

  pub form_refused : (v <ℤ f.low) ⊎ (f.high <ℤ v) → written (Oer.integer_form (form_bounds f) wide_range v) 0 ≡ None
  unfolding Oer.integer_form
  form_refused o = if_true _ _ may_stand ∙ if_false (is_within (form_bounds f).range v) _ (outside f.low f.high v o)

  pub form_added : (k : ℕ) (old new : List ℕ) → Some k ≡ fixed_width (Some f.low) (Some f.high) → f.low ≤ℤ v → v ≤ℤ f.high →
      new ≡ old ++ digits 256 k (of_z w128 v) → Adds (written (Oer.integer_form (form_bounds f) wide_range v) 0) old new
  unfolding Oer.integer_form
  form_added k old new w l m n =
      let within : is_within (form_bounds f).range v ≡ true = both_by (at_most f.low v l) (at_most v f.high m) in
      let text = if_true _ _ may_stand ∙ if_true (is_within (form_bounds f).range v) (Oer.bounded (Some f.low) (Some f.high) v) within in
      adds_same _ _ old new text (subst (λ t. Adds (written t 0) old new) (sym (form_told (Some f.low) (Some f.high) v)) (by_sign within (has_sign (Some f.low)) refl))
    where
      by_sign : is_within (form_bounds f).range v ≡ true → (s : Bool) → has_sign (Some f.low) ≡ s
          → Adds (written (cond s (Oer.signed_form (fixed_width (Some f.low) (Some f.high)) v) (Oer.natural_form (fixed_width (Some f.low) (Some f.high)) v)) 0) old new
      by_sign i true e = subst (λ o. Adds (written (Oer.signed_form o v) 0) old new) w
          (adds_fixed_signed k v old new (width_few (Some f.low) (Some f.high) k (sym w)) (signed_width (Some f.low) (Some f.high) v i k e (sym w)) n)
      by_sign i false e = subst (λ o. Adds (written (Oer.natural_form o v) 0) old new) w
          (adds_fixed_natural k v old new (natural_sign (Some f.low) (Some f.high) v i e) n)
