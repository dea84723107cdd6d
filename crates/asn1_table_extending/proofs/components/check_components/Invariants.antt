use Rattle.std.proofs.Common.{List, drop}
use Rattle.asn1_model.specs.Versions.{Begins}
use Rattle.asn1_table_extending.specs.Leading.{AddsOnly, ComponentParts}
use Rattle.asn1_table_extending.specs.Matching.{ComponentsMatch, IsListed}
use Rattle.asn1_table_extending.specs.declared.pairs.Pair.{Pair}
use Rattle.asn1_table_extending.proofs.components.check_components.Given as goal

-- The components so far match: if the others do, all do, whatever pairs are listed further.
abbrev pub invariant-loop-index : goal.invariant-loop-index
invariant-loop-index l = record {
  kept : Begins l.fn.pairs.items l.pairs.items;
  added : AddsOnly (ComponentParts l.older l.newer) l.fn.pairs.items l.pairs.items;
  matched : (qs : List Pair) → Begins l.pairs.items qs → ComponentsMatch (IsListed qs) l.may_have_more (drop l.index l.older) (drop l.index l.newer)
      → ComponentsMatch (IsListed qs) l.may_have_more l.older l.newer;
}
