use Rattle.std.proofs.Common.{◌≡◌, ◌+◌, ◌<◌, ◌^◌, length, drop}
use Rattle.asn1_schema_tags.specs.Trees.{leaves, leaves_of}
use Rattle.asn1_schema_tags.proofs.trees.TagTree.+leaf_count.Given as goal

abbrev pub invariant-loop-node : goal.invariant-loop-node
invariant-loop-node l = record {
  fits : l.total < 2 ^ 64;
  counted : l.total + length (leaves_of (drop l.node-index l.node-items)) ≡ length (leaves l.self);
}
