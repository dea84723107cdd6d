use Rattle.std.proofs.Common.{◌≡◌, true, drop}
use Rattle.asn1_table_types.specs.declared.faults.Flaw.{Flaw}
use Rattle.asn1_table_types.specs.Flaws.{are_components, some_lacks}
use Rattle.asn1_table_nodes.specs.Meaning.{components_of, type_at}
use Rattle.asn1_table_types.proofs.components.check_components.Given as goal

abbrev pub invariant-loop-component : goal.invariant-loop-component
invariant-loop-component l = record {
  sound : are_components l.added (components_of (λ i. type_at l.nodes 1 i) (drop l.component-index l.components))
      ≡ are_components l.added (components_of (λ i. type_at l.nodes 1 i) l.components);
  lacking : (f : Flaw) → some_lacks f l.added (components_of (λ i. type_at l.nodes 1 i) (drop l.component-index l.components)) ≡ true
      → some_lacks f l.added (components_of (λ i. type_at l.nodes 1 i) l.components) ≡ true;
}
