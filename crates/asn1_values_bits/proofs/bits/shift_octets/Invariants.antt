use Rattle.std.proofs.Common.{◌≡◌, ◌*◌, take, drop}
use Rattle.asn1_model.specs.Numbers.{octet_bits}
use Rattle.asn1_values_bits.proofs.bits.shift_octets.Given as goal

abbrev pub invariant-loop-i : goal.invariant-loop-i
invariant-loop-i l = octet_bits (take l.i l.target) ≡ take (l.i * 8) (drop l.fn.offset (octet_bits l.fn.source))
