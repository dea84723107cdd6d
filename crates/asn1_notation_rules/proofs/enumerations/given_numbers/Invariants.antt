use Rattle.std.proofs.Common.{◌≡◌, take}
use Rattle.asn1_notation_rules.specs.Enumerations.{given_in}
use Rattle.asn1_notation_rules.proofs.enumerations.given_numbers.Given as goal

abbrev pub invariant-loop-item : goal.invariant-loop-item
invariant-loop-item l = l.given.items ≡ given_in (take l.item-index l.items)
