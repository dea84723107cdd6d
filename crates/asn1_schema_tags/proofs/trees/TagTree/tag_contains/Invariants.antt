use Rattle.std.proofs.Common.{◌≡◌, drop}
use Rattle.asn1_schema_tags.specs.Tags.{tag_of}
use Rattle.asn1_schema_tags.specs.Trees.{leaves_of, is_among}
use Rattle.asn1_schema_tags.proofs.trees.TagTree.tag_contains.Given as goal

abbrev pub invariant-loop-node : goal.invariant-loop-node
invariant-loop-node l = is_among (leaves_of (drop l.node-index l.nodes)) (tag_of l.needle) ≡ is_among (leaves_of l.nodes) (tag_of l.needle)
