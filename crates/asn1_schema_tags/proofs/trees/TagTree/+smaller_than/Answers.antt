use Rattle.std.proofs.Common.{◌∙◌, sym, ap, drop, ◌+◌}
use Rattle.asn1_model.specs.Lawful.{smallest}
use Rattle.asn1_schema_tags.specs.Tags.{tag_of}
use Rattle.asn1_schema_tags.specs.Trees.{leaves_of}
use Rattle.asn1_schema_tags.proofs.TreeLaws.{smallest_step}
use Rattle.asn1_schema_tags.proofs.trees.TagTree.+smaller_than.Goals as goal

pub loop-node-preserved : goal.loop-node-preserved
loop-node-preserved t c =
    ap (λ m. smallest m (leaves_of (drop (c.loop-node.node-index + 1) c.in-Choice.nodes.now))) c.smaller_than-least.ensures
    ∙ (sym (smallest_step (tag_of c.loop-node.least) c.in-Choice.nodes.now c.loop-node.node-index c.node-item.result c.loop-node-test.true c.node-item.is)
    ∙ c.loop-node.invariant)
