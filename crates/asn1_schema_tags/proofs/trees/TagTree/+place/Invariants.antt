use Rattle.std.proofs.Common.{◌≡◌, ◌+◌, length, drop}
use Rattle.std.specs.List.{position_from}
use Rattle.asn1_model.specs.Lawful.{tag_same}
use Rattle.asn1_schema_tags.specs.Tags.{tag_of}
use Rattle.asn1_schema_tags.specs.Trees.{leaves, leaves_of, place_of}
use Rattle.asn1_schema_tags.proofs.trees.TagTree.+place.Given as goal

abbrev pub invariant-loop-node : goal.invariant-loop-node
invariant-loop-node l = record {
  counted : l.before + length (leaves_of (drop l.node-index l.node-items)) ≡ length (leaves l.self);
  passed : position_from (tag_same (tag_of l.tag)) l.before (leaves_of (drop l.node-index l.node-items)) ≡ place_of (leaves l.self) (tag_of l.tag);
}
