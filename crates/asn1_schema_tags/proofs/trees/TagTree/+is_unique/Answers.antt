use Rattle.std.proofs.Common.{◌∙◌, sym}
use Rattle.asn1_schema_tags.proofs.TreeLaws.{are_unique_next, are_unique_not, are_unique_shared}
use Rattle.asn1_schema_tags.proofs.trees.TagTree.+is_unique.Goals as goal
use Rattle.asn1_schema_tags.proofs.trees.TagTree.+is_unique.Goals.{then-not-is_unique-via-then-not-is_unique, then-not-is_unique-via-else-not-is_unique+then-shares_a_tag}

pub returns-then-not-is_unique : goal.returns-then-not-is_unique
returns-then-not-is_unique t c =
    elim c.then-not-is_unique.branch [
      | then-not-is_unique-via-then-not-is_unique w ↦
          sym (are_unique_not c.in-Choice.nodes.now c.loop-i.i c.node-item.result c.loop-i-test.true c.node-item.is (sym c.is_unique.ensures ∙ w.if-not-is_unique.true))
          ∙ c.loop-i.invariant
      | then-not-is_unique-via-else-not-is_unique+then-shares_a_tag w ↦
          sym (are_unique_shared c.in-Choice.nodes.now c.loop-i.i c.node-item.result c.loop-i-test.true c.node-item.is (sym w.shares_a_tag.ensures ∙ w.if-shares_a_tag.true))
          ∙ c.loop-i.invariant
    ]

pub loop-i-preserved : goal.loop-i-preserved
loop-i-preserved t c =
    are_unique_next c.in-Choice.nodes.now c.loop-i.i c.node-item.result c.loop-i-test.true c.node-item.is
    (sym c.is_unique.ensures ∙ c.if-not-is_unique.false) (sym c.shares_a_tag.ensures ∙ c.if-shares_a_tag.false)
    ∙ c.loop-i.invariant
