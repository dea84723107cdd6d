use Rattle.std.proofs.Common.{◌≡◌, take}
use Rattle.asn1_values_strings.proofs.bmp.units_of.Given as goal

abbrev pub invariant-loop-octet : goal.invariant-loop-octet
invariant-loop-octet l = l.characters.items ≡ take l.octet-index l.octets
