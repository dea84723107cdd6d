use Rattle.std.proofs.Common.{sym}
use Rattle.asn1_values_bits.proofs.Kept.{kept_length}
use Rattle.asn1_values_bits.proofs.bit_buffer.BitBuffer.len.Goals as goal

pub returns : goal.returns
returns c = sym (kept_length c.self.inside.len c.self.inside.octets.items c.args.self.now c.self.invariant c.self.view_is)
