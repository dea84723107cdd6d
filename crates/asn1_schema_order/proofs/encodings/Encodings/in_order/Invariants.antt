use Rattle.std.proofs.Common.{take}
use Rattle.asn1_schema_order.specs.Entries.{ArePlaced}
use Rattle.asn1_schema_order.proofs.Ascending.{Each}
use Rattle.asn1_schema_order.proofs.Placed.{HasFront}
use Rattle.asn1_schema_order.proofs.encodings.Encodings.in_order.Given as goal

abbrev pub invariant-loop-index : goal.invariant-loop-index
invariant-loop-index l = record {
  placed : ArePlaced 0 (take l.index l.self) l.all.items;
  fronts : Each HasFront l.all.items;
}
