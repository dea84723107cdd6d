-- The field-lists of an INTEGER between two bounds.
use Rattle.std.specs.Prelude.{FitsSigned, ◌<ℤ◌}
use Rattle.std.specs.Int.{w128}
use Rattle.std.proofs.Common.{◌≡◌, ℕ, ◌-◌, ◌^◌, ◌≤◌, ℤ, pos, negsuc, ◌-ℤ◌, ◌≤ℤ◌, Bool, true, false, ◌&&◌, ◌⊎◌, inl, inr, Option, Some, None, refl, ap, sym, ◌∙◌, unsigned_abs, arith}
use Rattle.std.proofs.lemmas.Int.{ints}
use Rattle.std.proofs.lemmas.Bool.{and_from, and_right}
use Rattle.asn1_model.specs.Form.{only_if}
use Rattle.asn1_model.specs.Schema.{wide_range, integer}
use Rattle.asn1_model.specs.Value.{number}
use Rattle.asn1_model.specs.Numbers.{is_at_most, is_within}
use Rattle.asn1_model.specs.Per
use Rattle.asn1_values_natives.proofs.RangeLaws.{at_most, not_at_most}
use Rattle.asn1_schema_constraints.specs.declared.bounds.Bounded.TheVariants.{Range as Between}
use Rattle.asn1_schema_constraints.specs.declared.extensions.Extensible.{Extensible}
use Rattle.asn1_schema_constraints.specs.declared.parts.Value.{Value}
use Rattle.asn1_schema_forms.specs.Forms.{form_bounds}
use Rattle.asn1_schema_forms.specs.declared.number.NumberForm.{NumberForm}
use Rattle.per_codec_packing.specs.FieldLists.{field_list_at}
use Rattle.per_codec_writing.proofs.NumberFieldLists.{between_field_list}
use Rattle.per_codec_writing.proofs.BoundedFieldLists.{bounded_field_list, inextensible_field_list, inextensible_none}

wide : (v : ℤ) → FitsSigned w128 v → is_within wide_range v ≡ true
wide (pos n) f = let l = f.sfits in and_from _ _ (at_most (negsuc (2 ^ 127 - 1)) (pos n) (omega (arith, ints))) (at_most (pos n) (pos (2 ^ 127 - 1)) (omega (arith, ints, l)))
wide (negsuc n) f = let l = f.sfits in and_from _ _ (at_most (negsuc (2 ^ 127 - 1)) (negsuc n) (omega (arith, ints, l))) (at_most (negsuc n) (pos (2 ^ 127 - 1)) (omega (arith, ints)))

-- the offset of a number from its lower bound is at most the span
pub offset : (low high v : ℤ) (span : ℕ) → low ≤ℤ v → v ≤ℤ high → pos span ≡ high -ℤ low → (d : ℕ) × (v -ℤ low ≡ pos d) × (d ≤ span)
offset low high v span l h s = told (v -ℤ low) refl
  where
    told : (z : ℤ) → v -ℤ low ≡ z → (d : ℕ) × (v -ℤ low ≡ pos d) × (d ≤ span)
    told (pos d) e = (d, e, omega (arith, ints, h, s, e))
    told (negsuc d) e = absurd (omega (arith, ints, l, e))

none_if : (b : Bool) (x : Per.BitForm) (p : Option ℕ) → field_list_at x p ≡ None → field_list_at (only_if b x) p ≡ None
unfolding field_list_at
none_if true x p e = e
none_if false x p e = refl

module _ (al : Bool) (form : NumberForm) (v : ℤ) where
  abbrev constraint : Extensible Value
  constraint = record { constraint = record { value = Between (Some form.low) (Some form.high) }; extensible = None }

  abbrev root : Per.BitForm
  root = Per.whole_number al (Some form.low) (Some form.high) v

  pub form_field_list : (span d : ℕ) (p : Option ℕ) → FitsSigned w128 v → form.low ≤ℤ v → v ≤ℤ form.high → pos span ≡ form.high -ℤ form.low → v -ℤ form.low ≡ pos d →
      field_list_at (Per.form al (integer (form_bounds form) wide_range) (number v)) p ≡ field_list_at (Per.constrained al span d) p
  form_field_list span d p f l h s e =
      let within = and_from _ _ (at_most form.low v l) (at_most v form.high h) in
      bounded_field_list al constraint wide_range v p (wide v f) (wide v f)
      ∙ inextensible_field_list root (Per.unconstrained al v) false _ p refl within
      ∙ between_field_list al form.low form.high v span d p within (ap unsigned_abs s) (ap unsigned_abs (sym e))

  pub form_none : (p : Option ℕ) → (v <ℤ form.low) ⊎ (form.high <ℤ v) → field_list_at (Per.form al (integer (form_bounds form) wide_range) (number v)) p ≡ None
  unfolding Per.form Per.integer_form
  form_none p w = none_if _ _ p (inextensible_none root (Per.unconstrained al v) false _ p refl (outside w))
    where
      outside : (v <ℤ form.low) ⊎ (form.high <ℤ v) → (is_at_most form.low v && is_at_most v form.high) ≡ false
      outside (inl l) = ap (λ b. b && is_at_most v form.high) (not_at_most form.low v l)
      outside (inr h) = and_right (is_at_most form.low v) (is_at_most v form.high) (not_at_most v form.high h)
