use Rattle.std.proofs.Common.{[], take}
use Rattle.asn1_notation_rules.specs.Enumerations.{AreNumbered, IsAddedNumber}
use Rattle.asn1_notation_rules.proofs.enumerations.added_numbers.Given as goal

-- The items so far have their numbers.
abbrev pub invariant-loop-index : goal.invariant-loop-index
invariant-loop-index l = AreNumbered (IsAddedNumber l.root) [] (take l.index l.items) l.numbers.items
