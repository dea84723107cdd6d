use Rattle.std.proofs.Common.{◌≡◌, ◌≤◌, ◌-◌, ◌*◌, take, length}
use Rattle.asn1_model.specs.Numbers.{octet_bits}
use Rattle.asn1_values_bits.specs.Octets.{ored, placed}
use Rattle.asn1_values_bits.proofs.bits.or_bits.Given as goal

abbrev pub invariant-loop-done : goal.invariant-loop-done
invariant-loop-done l = record {
  within : l.done ≤ l.count;
  merged : octet_bits l.target ≡ ored (octet_bits l.fn.target) (placed l.position (take l.done (octet_bits l.source)) (length l.fn.target * 8));
}

abbrev pub decreases-loop-done : goal.decreases-loop-done
decreases-loop-done l = l.count - l.done
