use Rattle.std.proofs.Common.{◌≡◌, ◌<◌, length}
use Rattle.asn1_values_natives.specs.Octets.{signed_number}
use Rattle.asn1_values_natives.proofs.octets.without_padding.Given as goal

abbrev pub invariant-loop-rest : goal.invariant-loop-rest
invariant-loop-rest l = record { same : signed_number l.rest ≡ signed_number l.octets; some : 0 < length l.octets → 0 < length l.rest }

abbrev pub decreases-loop-rest : goal.decreases-loop-rest
decreases-loop-rest l = length l.rest
