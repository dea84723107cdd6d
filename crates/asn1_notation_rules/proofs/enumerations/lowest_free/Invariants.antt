use Rattle.std.proofs.Common.{◌≡◌, ◌^◌, ℤ, pos, true}
use Rattle.std.specs.Prelude.{◌≤ℤ◌, ◌<ℤ◌}
use Rattle.std.specs.Int.{int_gap}
use Rattle.asn1_notation_rules.specs.Enumerations.{has_number, start_of}
use Rattle.asn1_notation_rules.proofs.enumerations.lowest_free.Given as goal

-- Each number before is taken.
abbrev pub invariant-loop-number : goal.invariant-loop-number
invariant-loop-number l = record {
  not_below : start_of l.fn.from ≤ℤ l.number;
  taken : (m : ℤ) → start_of l.fn.from ≤ℤ m → m <ℤ l.number → has_number l.taken m ≡ true;
}

abbrev pub decreases-loop-number : goal.decreases-loop-number
decreases-loop-number l = int_gap l.number (pos (2 ^ 63))
