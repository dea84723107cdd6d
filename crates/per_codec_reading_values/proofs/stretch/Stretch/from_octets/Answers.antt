use Rattle.std.proofs.Common.{◌∙◌, ap}
use Rattle.asn1_model.specs.Numbers.{octet_bits}
use Rattle.per_codec_reading_values.specs.Stretches.{Stretched}
use Rattle.per_codec_reading_values.proofs.Moving.{take_at_most}
use Rattle.per_codec_reading_values.proofs.stretch.Stretch.from_octets.Goals as goal

pub returns-clause-place : goal.returns-clause-place
returns-clause-place c = ap (λ (s : Stretched). s.place) c.new.ensures ∙
    ap (λ bits. (0, bits)) (c.from_slice.ensures.bits ∙ ap octet_bits (take_at_most c.min-count.result 1152921504606846975 c.args.input.now c.min-count.ensures))
