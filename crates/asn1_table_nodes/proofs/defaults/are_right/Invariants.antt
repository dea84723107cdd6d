use Rattle.std.proofs.Common.{Bool, drop}
use Rattle.asn1_table_nodes.specs.Defaults.{Decides, have_defaults}
use Rattle.asn1_table_nodes.specs.Meaning.{components_of, type_at}
use Rattle.asn1_table_nodes.proofs.defaults.are_right.Given as goal

-- What the rest decides is what all decide.
abbrev pub invariant-loop-component : goal.invariant-loop-component
invariant-loop-component l =
    (b : Bool) → Decides (λ n. have_defaults (components_of (λ i. type_at l.nodes n i) (drop l.component-index l.components))) b
    → Decides (λ n. have_defaults (components_of (λ i. type_at l.nodes n i) l.components)) b
