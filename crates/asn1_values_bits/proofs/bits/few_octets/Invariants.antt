use Rattle.std.proofs.Common.{◌≡◌, ◌*◌, ◌^◌, ◌<◌, take}
use Rattle.asn1_model.specs.Numbers.{binary, octet_bits}
use Rattle.asn1_values_bits.proofs.bits.few_octets.Given as goal

abbrev pub invariant-loop-octet : goal.invariant-loop-octet
invariant-loop-octet l = record {
  digits : binary (l.octet-index * 8) l.value ≡ octet_bits (take l.octet-index l.octets);
  small : l.value < 2 ^ (l.octet-index * 8);
}
