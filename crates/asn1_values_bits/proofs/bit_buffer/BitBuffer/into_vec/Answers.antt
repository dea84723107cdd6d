use Rattle.std.proofs.Common.{ℕ, ◌<◌, get_or, length, arith}
use Rattle.asn1_values_bits.proofs.Kept.{kept_padded}
use Rattle.asn1_values_bits.proofs.Padded.{kept_octets}
use Rattle.asn1_values_bits.proofs.bit_buffer.BitBuffer.into_vec.Goals as goal

pub returns-clause-octets : goal.returns-clause-octets
returns-clause-octets c =
    let small : (k : ℕ) → k < length c.self.inside.octets.items → get_or c.self.inside.octets.items k 0 < 256 = λ k h. omega arith in
    kept_octets c.self.inside.len c.self.inside.octets.items c.args.self small c.self.invariant c.self.view_is

pub returns-clause-bits : goal.returns-clause-bits
returns-clause-bits c = kept_padded c.self.inside.len c.self.inside.octets.items c.args.self c.self.invariant c.self.view_is
