use Rattle.std.proofs.Common.{◌≡◌, map, length}
use Rattle.asn1_values_natives.specs.Octets.{unsigned_number, sign_free}
use Rattle.asn1_values_natives.proofs.octets.without_leading.Given as goal

abbrev pub invariant-loop-rest : goal.invariant-loop-rest
invariant-loop-rest l = unsigned_number (map (sign_free l.negative) l.rest) ≡ unsigned_number (map (sign_free l.negative) l.octets)

abbrev pub decreases-loop-rest : goal.decreases-loop-rest
decreases-loop-rest l = length l.rest
