use Rattle.std.proofs.Common.{◌≡◌, ◌+◌, ◌≤◌, drop, map}
use Rattle.asn1_laws_values.proofs.Counts.{count}
use Rattle.asn1_model.specs.Value.{same, values_of}
use Rattle.asn1_table_nodes.specs.Values.{value_of}
use Rattle.asn1_table_tape.proofs.defaults.count_alike.Given as goal

-- The count so far, with that of the rest, is that of all.
abbrev pub invariant-loop-other : goal.invariant-loop-other
invariant-loop-other l =
    (l.count + count (λ x. same (value_of l.value) x) (values_of (map value_of (drop l.other-index l.values))) ≡ count (λ x. same (value_of l.value) x) (values_of (map value_of l.values)))
    × (l.count ≤ l.other-index)
