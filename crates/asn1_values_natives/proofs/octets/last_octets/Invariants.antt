use Rattle.std.proofs.Common.{◌≡◌, ◌-◌, ◌/◌, ◌^◌, map, drop, length}
use Rattle.asn1_model.specs.Numbers.{digits}
use Rattle.asn1_values_natives.specs.Octets.{sign_free}
use Rattle.asn1_values_natives.proofs.octets.last_octets.Given as goal

abbrev pub invariant-loop-done : goal.invariant-loop-done
invariant-loop-done l = record {
  rest : l.rest ≡ l.number / 256 ^ l.done;
  last : drop (17 - l.done) l.octets ≡ map (sign_free l.negative) (digits 256 l.done l.number);
  size : length l.octets ≡ 17;
}
