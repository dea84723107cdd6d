use Rattle.std.proofs.Common.{[], take}
use Rattle.asn1_notation_rules.specs.Enumerations.{AreNumbered, IsNextFree, IsRootNumber, given_in, start_of}
use Rattle.asn1_notation_rules.proofs.enumerations.root_numbers.Given as goal

-- The items so far have their numbers, and no number below the next is free.
abbrev pub invariant-loop-index : goal.invariant-loop-index
invariant-loop-index l = record {
  numbered : AreNumbered (IsRootNumber (given_in l.items)) [] (take l.index l.items) l.numbers.items;
  free : IsNextFree (given_in l.items) l.numbers.items (start_of l.next);
}
