use Rattle.std.proofs.Common.{ℕ, ◌<◌, ◌∙◌, get_or, length, rules, ap}
use Rattle.asn1_model.specs.Numbers.{octet_bits}
use Rattle.asn1_values_bits.proofs.Kept.{kept_padded}
use Rattle.asn1_values_bits.proofs.Padded.{kept_octets}
use Rattle.asn1_values_bits.proofs.bit_buffer.BitBuffer.as_bytes.Goals as goal

pub returns-clause-octets : goal.returns-clause-octets
returns-clause-octets c =
    let small : (k : ℕ) → k < length c.self.inside.octets.items → get_or c.self.inside.octets.items k 0 < 256 = λ k h. search rules in
    c.as_slice-octets.ensures.value ∙ kept_octets c.self.inside.len c.self.inside.octets.items c.args.self.now small c.self.invariant c.self.view_is

pub returns-clause-bits : goal.returns-clause-bits
returns-clause-bits c = ap octet_bits c.as_slice-octets.ensures.value ∙ kept_padded c.self.inside.len c.self.inside.octets.items c.args.self.now c.self.invariant c.self.view_is
