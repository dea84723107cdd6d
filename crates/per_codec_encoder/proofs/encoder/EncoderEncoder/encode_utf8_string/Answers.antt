use Rattle.std.proofs.Common.{refl}
use Rattle.asn1_model.specs.Schema.{utf8}
use Rattle.asn1_model.specs.Schema.{any_count}
use Rattle.asn1_schema_constraints.specs.Terms.{sizes_of, alphabet_of}
use Rattle.asn1_schema_laws.specs.Records.{characters}
use Rattle.per_codec_encoder.proofs.Stepped.{adds_sound, adds_puts}
use Rattle.per_codec_rules.specs.Variants.{is_aligned}
use Rattle.per_codec_encoder.proofs.encoder.EncoderEncoder.encode_utf8_string.Goals as goal

pub invariant_of-self-2 : goal.invariant_of-self-2
invariant_of-self-2 c _ = adds_sound (is_aligned c.self.inside.variant)
    (characters utf8 (sizes_of c.args.constraints.now.size) (alphabet_of c.args.constraints.now.permitted_alphabet) any_count c.args.value.now) _
    c.self.inside.frames c.self.inside.output c.push_utf8.new.output (λ s. refl) (c.self.invariant c.in_ok-begin_record.ensures.ok) c.in_ok-push_utf8.ensures

pub returns-clause-ok : goal.returns-clause-ok
returns-clause-ok c = adds_puts (is_aligned c.self.inside.variant)
    (characters utf8 (sizes_of c.args.constraints.now.size) (alphabet_of c.args.constraints.now.permitted_alphabet) any_count c.args.value.now) _
    c.self.inside.frames c.self.inside.output c.push_utf8.new.output c.self.inside.failed c.args.self.now (λ s. refl) c.self.view_is
    c.in_ok-begin_record.ensures.ok (c.self.invariant c.in_ok-begin_record.ensures.ok) c.in_ok-push_utf8.ensures
