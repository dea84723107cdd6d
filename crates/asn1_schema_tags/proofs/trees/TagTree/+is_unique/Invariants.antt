use Rattle.std.proofs.Common.{◌≡◌, drop}
use Rattle.asn1_schema_tags.specs.Trees.{leaves, leaves_of, are_unique}
use Rattle.asn1_schema_tags.proofs.trees.TagTree.+is_unique.Given as goal

abbrev pub invariant-loop-i : goal.invariant-loop-i
invariant-loop-i l = are_unique (leaves_of (drop l.i l.node-items)) ≡ are_unique (leaves l.self)
