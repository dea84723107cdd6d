use Rattle.std.proofs.Common.{◌≡◌, drop}
use Rattle.asn1_schema_tags.specs.Tags.{tag_of}
use Rattle.asn1_schema_tags.specs.Trees.{leaves, leaves_of, is_among}
use Rattle.asn1_schema_tags.proofs.trees.TagTree.+has_tag.Given as goal

abbrev pub invariant-loop-node : goal.invariant-loop-node
invariant-loop-node l = is_among (leaves_of (drop l.node-index l.node-items)) (tag_of l.needle) ≡ is_among (leaves l.self) (tag_of l.needle)
