use Rattle.std.proofs.Common.{◌≡◌, drop}
use Rattle.asn1_schema_tags.specs.Trees.{leaves, leaves_of, share_a_tag}
use Rattle.asn1_schema_tags.proofs.trees.TagTree.+shares_a_tag.Given as goal

abbrev pub invariant-loop-node : goal.invariant-loop-node
invariant-loop-node l = share_a_tag (leaves_of (drop l.node-index l.node-items)) (leaves_of l.others) ≡ share_a_tag (leaves l.self) (leaves_of l.others)
