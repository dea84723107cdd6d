use Rattle.std.specs.Int.{w128}
use Rattle.std.proofs.Common.{refl}
use Rattle.std.proofs.lemmas.Int.{to_z-of_z}
use Rattle.asn1_model.specs.Schema.{wide_range}
use Rattle.asn1_schema_forms.specs.Forms.{form_bounds}
use Rattle.asn1_schema_laws.specs.Records.{whole}
use Rattle.asn1_schema_laws.proofs.Joined.{raised}
use Rattle.per_codec_encoder.proofs.Stepped.{adds_sound, adds_puts, form_refused}
use Rattle.per_codec_rules.specs.Variants.{is_aligned}
use Rattle.per_codec_encoder.proofs.encoder.EncoderEncoder.encode_number.Goals as goal

pub invariant_of-self-2 : goal.invariant_of-self-2
invariant_of-self-2 c _ =
    let added = rw (to_z-of_z w128 c.args.number c.ranges.number) at c.in_ok-push_in_form.ensures in
    adds_sound (is_aligned c.self.inside.variant) (whole (form_bounds c.args.form.now) wide_range c.args.number) _ c.self.inside.frames
    c.self.inside.output c.push_in_form.new.output (λ s. refl) (c.self.invariant c.in_ok-begin_record.ensures.ok) added

pub returns-clause-ok : goal.returns-clause-ok
returns-clause-ok c =
    let added = rw (to_z-of_z w128 c.args.number c.ranges.number) at c.in_ok-push_in_form.ensures in
    adds_puts (is_aligned c.self.inside.variant) (whole (form_bounds c.args.form.now) wide_range c.args.number) _ c.self.inside.frames
    c.self.inside.output c.push_in_form.new.output c.self.inside.failed c.args.self.now (λ s. refl) c.self.view_is
    c.in_ok-begin_record.ensures.ok (c.self.invariant c.in_ok-begin_record.ensures.ok) added

pub returns-in_err-push_in_form-clause-only : goal.returns-in_err-push_in_form-clause-only
returns-in_err-push_in_form-clause-only c =
    let refused = rw (to_z-of_z w128 c.args.number c.ranges.number) at c.in_err-push_in_form.ensures in
    raised _ _ _ c.from_residual-in_err-push_in_form.ensures.1
    (form_refused (is_aligned c.self.inside.variant) (whole (form_bounds c.args.form.now) wide_range c.args.number) _ c.self.inside.frames
    c.self.inside.output c.self.inside.failed c.args.self.now _ (λ s. refl) c.self.view_is (c.self.invariant c.in_ok-begin_record.ensures.ok) refused)
