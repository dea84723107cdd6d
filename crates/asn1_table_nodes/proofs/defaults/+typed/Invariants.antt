use Rattle.std.proofs.Common.{◌≡◌, drop, length, map, slice_get}
use Rattle.asn1_model.specs.Value.{values_of}
use Rattle.asn1_table_nodes.specs.Defaults.{have_parts, have_type}
use Rattle.asn1_table_nodes.specs.Values.{part_of, parts_of, value_of}
use Rattle.asn1_table_nodes.proofs.defaults.+typed.Given as goal

-- What holds of the rest holds of all.
abbrev pub invariant-are_of_type-loop-value : goal.invariant-are_of_type-loop-value
invariant-are_of_type-loop-value l =
    have_type l.nodes (slice_get l.nodes l.place) (values_of (map value_of (drop l.value-index l.values))) ≡ have_type l.nodes (slice_get l.nodes l.place) (values_of (map value_of l.values))

-- The same of parts; there are as many of them left as of components.
abbrev pub invariant-have_parts-loop-component : goal.invariant-have_parts-loop-component
invariant-have_parts-loop-component l =
    (have_parts l.nodes l.component-iterator.a.rest.now (parts_of (map part_of l.component-iterator.b.rest.now)) ≡ have_parts l.nodes l.components (parts_of (map part_of l.parts)))
    × (length l.component-iterator.a.rest.now ≡ length l.component-iterator.b.rest.now)
