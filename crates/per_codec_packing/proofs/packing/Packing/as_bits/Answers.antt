use Rattle.std.proofs.Common.{sym}
use Rattle.per_codec_packing.proofs.Kept.{bits_alone, plain_is}
use Rattle.per_codec_packing.proofs.packing.Packing.as_bits.Goals as goal

pub returns-clause-bits : goal.returns-clause-bits
returns-clause-bits c = sym (bits_alone c.self.inside.bits c.self.inside.paddings.items c.self.inside.is_placed c.self.invariant c.args.self.now c.self.view_is)

pub returns-clause-placed : goal.returns-clause-placed
returns-clause-placed c = plain_is c.self.inside.bits c.self.inside.paddings.items c.self.inside.is_placed c.self.invariant c.args.self.now c.self.view_is
