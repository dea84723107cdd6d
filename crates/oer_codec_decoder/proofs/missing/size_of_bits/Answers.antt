use Rattle.std.proofs.Common.{◌≡◌, ◌+◌, ◌/◌, Some, ap, sym, ◌∙◌, arith}
use Rattle.oer_codec_decoder.specs.Missing.{octets_of_bits}
use Rattle.oer_codec_decoder.proofs.missing.size_of_bits.Goals as goal

pub returns-in-Some : goal.returns-in-Some
returns-in-Some c = let e : c.div_ceil.result ≡ (c.in-Some.count + 7) / 8 = omega arith in ap Some e ∙ ap octets_of_bits (sym c.in-Some.is)
