use Rattle.std.proofs.Common.{◌≡◌, ◌==◌, length}
use lib.Pointwise.{pointwise}
use Rattle.asn1_table_tape.proofs.defaults.has_units.Given as goal

abbrev pub invariant-loop-unit : goal.invariant-loop-unit
invariant-loop-unit l = pointwise ◌==◌ l.left l.right ≡ pointwise ◌==◌ l.units l.characters

abbrev pub decreases-loop-unit : goal.decreases-loop-unit
decreases-loop-unit l = length l.left
