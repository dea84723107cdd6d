use Rattle.std.proofs.Common.{sym}
use Rattle.asn1_values_bits.proofs.Views.{length-bits_of}
use Rattle.asn1_values_bits.proofs.bit_str.BitStr.len.Goals as goal

pub returns : goal.returns
returns c = sym (length-bits_of c.args.self.now)
