use Rattle.std.proofs.Common.{◌≡◌, drop}
use Rattle.asn1_model.specs.Lawful.{smallest}
use Rattle.asn1_schema_tags.specs.Tags.{tag_of}
use Rattle.asn1_schema_tags.specs.Trees.{leaves, leaves_of}
use Rattle.asn1_schema_tags.proofs.trees.TagTree.+smaller_than.Given as goal

abbrev pub invariant-loop-node : goal.invariant-loop-node
invariant-loop-node l = smallest (tag_of l.least) (leaves_of (drop l.node-index l.node-items)) ≡ smallest (tag_of l.fn.most) (leaves l.self)
