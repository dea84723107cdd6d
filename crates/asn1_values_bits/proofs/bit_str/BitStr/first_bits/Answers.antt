use Rattle.std.proofs.Common.{◌≤◌, sym, ◌∙◌, arith, drop}
use Rattle.std.proofs.lemmas.List.{take-take}
use Rattle.asn1_model.specs.Numbers.{octet_bits}
use Rattle.asn1_values_bits.specs.BitStr.{bits_of}
use Rattle.asn1_values_bits.proofs.Views.{length-bits_of}
use Rattle.asn1_values_bits.proofs.bit_str.BitStr.first_bits.Goals as goal

pub read_bits-requires-clause-within : goal.read_bits-requires-clause-within
read_bits-requires-clause-within c = omega (arith, length-bits_of c.args.self.now)

pub read_bits-requires-clause-short : goal.read_bits-requires-clause-short
read_bits-requires-clause-short c = omega (arith, length-bits_of c.args.self.now)

pub returns-clause-digits : goal.returns-clause-digits
unfolding bits_of
returns-clause-digits c =
    let l : c.args.count ≤ c.args.self.now.len = omega (arith, length-bits_of c.args.self.now) in
    c.read_bits.ensures.digits ∙ sym (take-take c.args.count c.args.self.now.len (drop c.args.self.now.first (octet_bits c.args.self.now.octets.now)) l)
