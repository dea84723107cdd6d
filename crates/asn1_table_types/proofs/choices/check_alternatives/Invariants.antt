use Rattle.std.proofs.Common.{◌≡◌, drop}
use Rattle.asn1_table_types.specs.Flaws.{are_alternatives}
use Rattle.asn1_table_nodes.specs.Meaning.{alternatives_of, type_at}
use Rattle.asn1_table_types.proofs.choices.check_alternatives.Given as goal

abbrev pub invariant-loop-alternative : goal.invariant-loop-alternative
invariant-loop-alternative l =
    are_alternatives (alternatives_of (λ i. type_at l.nodes 1 i) (drop l.alternative-index l.alternatives))
    ≡ are_alternatives (alternatives_of (λ i. type_at l.nodes 1 i) l.alternatives)
