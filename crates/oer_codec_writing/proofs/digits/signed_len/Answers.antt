use Rattle.std.proofs.Common.{to_z-of_z, ◌∙◌}
use Rattle.oer_codec_writing.proofs.DigitTexts.{few_signed}
use Rattle.oer_codec_writing.proofs.digits.signed_len.Goals as goal

pub returns-clause-most : goal.returns-clause-most
returns-clause-most c = few_signed c.args.number c.from_i128.result.negative c.from_i128.result.magnitude c.bit_count.result c.ranges.number
    (c.from_i128.ensures ∙ to_z-of_z c.ranges.number) c.bit_count.ensures.value
