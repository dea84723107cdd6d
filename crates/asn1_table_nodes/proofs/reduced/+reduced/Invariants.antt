use Rattle.std.proofs.Common.{◌≡◌, drop, map, slice_get}
use Rattle.asn1_model.specs.Value.{values_of}
use Rattle.asn1_table_nodes.specs.Reduced.{are_reduced, have_reduced}
use Rattle.asn1_table_nodes.specs.Values.{part_of, parts_of, value_of}
use Rattle.asn1_table_nodes.proofs.reduced.+reduced.Given as goal

-- What holds of the rest holds of all.
abbrev pub invariant-are_reduced-loop-value : goal.invariant-are_reduced-loop-value
invariant-are_reduced-loop-value l =
    are_reduced l.nodes (slice_get l.nodes l.place) (values_of (map value_of (drop l.value-index l.values))) ≡ are_reduced l.nodes (slice_get l.nodes l.place) (values_of (map value_of l.values))

abbrev pub invariant-have_reduced-loop-component : goal.invariant-have_reduced-loop-component
invariant-have_reduced-loop-component l =
    have_reduced l.nodes l.component-iterator.a.rest.now (parts_of (map part_of l.component-iterator.b.rest.now)) ≡ have_reduced l.nodes l.components (parts_of (map part_of l.parts))
