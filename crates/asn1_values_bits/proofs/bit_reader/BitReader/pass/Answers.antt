use Rattle.std.proofs.Common.{arith}
use Rattle.asn1_values_bits.specs.BitStr.{bits_of}
use Rattle.asn1_values_bits.proofs.Shown.{window_behind}
use Rattle.asn1_values_bits.proofs.bit_reader.BitReader.pass.Goals as goal

pub invariant_of-self : goal.invariant_of-self
invariant_of-self c =
    window_behind (bits_of c.self.inside.rest) (bits_of c.split_at.result.1) c.self.inside.window c.pass.new.self c.args.count
    c.self.invariant c.split_at.ensures.rest (omega (arith, c.width.ensures)) c.pass.ensures.behind c.pass.ensures.fewer
