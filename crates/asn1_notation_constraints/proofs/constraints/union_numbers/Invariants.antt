use Rattle.std.proofs.Common.{◌≡◌, ℤ, map, take}
use Rattle.std.specs.List.{list_any}
use Rattle.asn1_notation_intervals.specs.Sets.{is_in}
use Rattle.asn1_notation_constraints.specs.Constraints.{at}
use Rattle.asn1_notation_constraints.proofs.constraints.union_numbers.Given as goal

abbrev pub invariant-loop-index : goal.invariant-loop-index
invariant-loop-index l =
    (z : ℤ) → is_in l.intervals.items z ≡ list_any (at (map (λ p. is_in p.numbers z) l.parts)) (take l.index-index l.of)
