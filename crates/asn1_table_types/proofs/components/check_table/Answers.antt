use Rattle.std.proofs.lemmas.Bool.{or_right}
use Rattle.asn1_table_nodes.specs.Meaning.{type_at}
use Rattle.asn1_table_types.proofs.Refused.{raised}
use Rattle.asn1_table_types.proofs.TagLaws.{unmarked_lacks, twice_lacks, table_is}
use Rattle.asn1_table_types.proofs.components.check_table.Goals as goal

pub returns-then-not-is_marked-clause-lacking : goal.returns-then-not-is_marked-clause-lacking
returns-then-not-is_marked-clause-lacking c =
    unmarked_lacks (λ i. type_at c.args.nodes.now 1 i) c.args.root.now c.args.is_extensible c.args.additions.now c.is_marked.ensures c.if-not-is_marked.true

pub returns-then-not-is_distinct-clause-lacking : goal.returns-then-not-is_distinct-clause-lacking
returns-then-not-is_distinct-clause-lacking c =
    twice_lacks (λ i. type_at c.args.nodes.now 1 i) c.args.root.now c.args.is_extensible c.args.additions.now c.in_ok-is_distinct.ensures c.if-not-is_distinct.true

pub returns-in_err-check_each-clause-lacking : goal.returns-in_err-check_each-clause-lacking
returns-in_err-check_each-clause-lacking c =
    raised _ _ _ _ c.from_residual-in_err-check_each.ensures.1 (λ f h. or_right _ _ h) c.in_err-check_each.ensures.lacking

pub returns-clause-sound : goal.returns-clause-sound
returns-clause-sound c =
    table_is (λ i. type_at c.args.nodes.now 1 i) c.args.root.now c.args.is_extensible c.args.additions.now c.is_marked.ensures c.if-not-is_marked.false
    c.in_ok-is_distinct.ensures c.if-not-is_distinct.false c.in_ok-check_each.ensures.sound
