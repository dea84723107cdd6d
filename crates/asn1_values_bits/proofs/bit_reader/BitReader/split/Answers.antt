use Rattle.std.proofs.Common.{arith}
use Rattle.asn1_values_bits.specs.BitStr.{bits_of}
use Rattle.asn1_values_bits.proofs.Shown.{window_front}
use Rattle.asn1_values_bits.proofs.bit_reader.BitReader.split.Goals as goal

pub invariant_of-result : goal.invariant_of-result
invariant_of-result c =
    window_front (bits_of c.self.inside.rest) (bits_of c.split_at.result.0) c.self.inside.window c.front-window.result c.args.count
    c.self.invariant c.split_at.ensures.front (omega (arith, c.len-len.ensures)) c.front-window.ensures.width c.front-window.ensures.front
