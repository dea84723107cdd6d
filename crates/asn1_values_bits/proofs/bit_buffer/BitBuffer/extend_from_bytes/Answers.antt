use Rattle.std.proofs.Common.{arith, ap, ◌∙◌, ◌++◌}
use Rattle.std.proofs.lemmas.List.{take_all}
use Rattle.asn1_model.specs.Numbers.{octet_bits}
use Rattle.asn1_values_bits.proofs.Binary.{length-octet_bits}
use Rattle.asn1_values_bits.proofs.Kept.{kept_length}
use Rattle.asn1_values_bits.proofs.bit_buffer.BitBuffer.extend_from_bytes.Goals as goal

pub returns-clause-ok : goal.returns-clause-ok
returns-clause-ok c =
    c.in_ok-extend_shifted.ensures.ok
    ∙ ap (λ l. c.args.self.now ++ l) (c.front_of.ensures.bits ∙ take_all c.in-Some.bits (octet_bits c.args.bytes.now) (omega (arith, c.in-Some.ensures, length-octet_bits c.args.bytes.now)))

pub push_octets-requires : goal.push_octets-requires
push_octets-requires c = omega (arith, kept_length c.self.inside.len c.self.inside.octets.items c.args.self.now c.self.invariant c.self.view_is, c.if-self-eq0.true)
