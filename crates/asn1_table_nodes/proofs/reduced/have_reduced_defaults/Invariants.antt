use Rattle.std.proofs.Common.{◌≡◌, drop}
use Rattle.asn1_table_nodes.specs.Reduced.{have_reduced_defaults}
use Rattle.asn1_table_nodes.proofs.reduced.have_reduced_defaults.Given as goal

-- What holds of the rest holds of all.
abbrev pub invariant-loop-component : goal.invariant-loop-component
invariant-loop-component l = have_reduced_defaults l.nodes (drop l.component-index l.components) ≡ have_reduced_defaults l.nodes l.components
