use Rattle.std.proofs.Common.{◌≡◌, slice_get, drop}
use Rattle.asn1_schema_tags.specs.Trees.{leaves, leaves_of}
use Rattle.asn1_schema_tags.proofs.trees.TagTree.+tag_at.Given as goal

abbrev pub invariant-loop-node : goal.invariant-loop-node
invariant-loop-node l = slice_get (leaves_of (drop l.node-index l.node-items)) l.left ≡ slice_get (leaves l.self) l.fn.position
