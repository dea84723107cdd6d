use Rattle.std.proofs.Common.{rules, refl, ℤ, subst, to_z-of_z}
use Rattle.asn1_model.specs.Schema.{wide_range}
use Rattle.asn1_model.specs.Form.{written}
use Rattle.asn1_model.specs.Oer.{integer_form}
use Rattle.asn1_schema_forms.specs.Forms.{form_bounds}
use Rattle.asn1_schema_laws.specs.Records.{whole}
use Rattle.oer_codec_writing.specs.Writing.{Adds}
use Rattle.oer_codec_encoder.proofs.Stepped.{adds_sound, adds_puts, text_kept}
use Rattle.oer_codec_encoder.proofs.encoder.EncoderEncoder.encode_number.Goals as goal

pub invariant_of-self-2 : goal.invariant_of-self-2
invariant_of-self-2 c _ =
    adds_sound (whole (form_bounds c.args.form.now) wide_range c.args.number) _ c.self.inside.frames c.self.inside.output.now.items
    c.push_in_form.new.octets.items (λ s. refl) (c.self.invariant c.in_ok-begin_record.ensures.ok) (subst (λ (z : ℤ). Adds (written (integer_form (form_bounds c.args.form.now) wide_range z) 0) c.self.inside.output.now.items
    c.push_in_form.new.octets.items) (to_z-of_z c.ranges.number) c.in_ok-push_in_form.ensures.text)

pub returns-clause-ok : goal.returns-clause-ok
returns-clause-ok c = adds_puts (whole (form_bounds c.args.form.now) wide_range c.args.number) _ c.self.inside.frames c.self.inside.output.now.items
    c.push_in_form.new.octets.items c.self.inside.failed c.args.self.now (λ s. refl) c.self.view_is c.in_ok-begin_record.ensures.ok
    (c.self.invariant c.in_ok-begin_record.ensures.ok) (subst (λ (z : ℤ). Adds (written (integer_form (form_bounds c.args.form.now) wide_range z) 0) c.self.inside.output.now.items
    c.push_in_form.new.octets.items) (to_z-of_z c.ranges.number) c.in_ok-push_in_form.ensures.text)

pub returns-clause-call : goal.returns-clause-call
returns-clause-call c = record { failed = search rules; front = (returns-clause-ok c).3; already = search rules; after = search rules }

pub returns-in_err-push_in_form-clause-call : goal.returns-in_err-push_in_form-clause-call
returns-in_err-push_in_form-clause-call c =
    record {
      failed = search rules;
      front = text_kept c.self.inside.frames c.self.inside.output.now.items c.push_in_form.new.octets.items
          c.self.inside.failed c.args.self.now c.self.view_is (c.self.invariant c.in_ok-begin_record.ensures.ok) c.in_err-push_in_form.ensures.kept;
      already = search rules;
      after = search rules;
    }
