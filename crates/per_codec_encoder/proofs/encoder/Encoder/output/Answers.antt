use Rattle.std.proofs.Common.{◌≡◌, true, Some, subst}
use Rattle.per_codec_packing.specs.FieldLists.{plain}
use Rattle.per_codec_packing.specs.Packed.{Packed}
use Rattle.per_codec_encoder.proofs.Stepped.{taken_out, none_taken_out}
use Rattle.per_codec_rules.specs.Variants.{is_aligned}
use Rattle.per_codec_encoder.proofs.encoder.Encoder.output.Goals as goal

pub returns-clause-octets : goal.returns-clause-octets
returns-clause-octets c =
    let bits = c.into_bits-bits.result in
    taken_out c.self.inside.frames c.self.inside.output bits (is_aligned c.self.inside.variant) c.self.inside.failed c.args.self.now c.message.result
    c.self.view_is c.self.invariant (subst (λ (q : Packed). q.placed ≡ true → plain q.field_list ≡ Some bits) c.replace.ensures.value c.into_bits-bits.ensures.placed) c.message.ensures

pub returns-clause-bare : goal.returns-clause-bare
returns-clause-bare c =
    let bits = c.into_bits-bits.result in
    none_taken_out c.self.inside.frames c.self.inside.output bits (is_aligned c.self.inside.variant) c.self.inside.failed c.args.self.now
    c.message.result c.self.view_is c.self.invariant (subst (λ (q : Packed). q.placed ≡ true → plain q.field_list ≡ Some bits)
    c.replace.ensures.value c.into_bits-bits.ensures.placed) c.message.ensures
