use Rattle.std.proofs.Common.{◌≡◌, ◌-◌, ap, ◌∙◌, arith, set, true}
use Rattle.asn1_model.specs.Numbers.{binary}
use Rattle.asn1_values_bits.proofs.Change.{raised}
use Rattle.oer_codec_encoder.proofs.sequences.with_bit.Goals as goal

pub returns : goal.returns
returns c =
    let place : 8 - 1 - (7 - c.args.index) ≡ c.args.index = omega arith in
    raised c.args.octet (7 - c.args.index) (omega arith) ∙ ap (λ k. set (binary 8 c.args.octet) k true) place
