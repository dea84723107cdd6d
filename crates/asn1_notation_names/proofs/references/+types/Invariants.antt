-- The levels fall where an actual parameter has actual parameters.
use Rattle.std.proofs.Common.{◌+◌, ◌*◌}
use Rattle.asn1_notation_names.proofs.references.+types.Given as goal

abbrev pub decreases-referenced : goal.decreases-referenced
decreases-referenced l = 4 * l.levels + 3

abbrev pub decreases-instance_of : goal.decreases-instance_of
decreases-instance_of l = 4 * l.levels + 2

abbrev pub decreases-key_of : goal.decreases-key_of
decreases-key_of l = 4 * l.levels + 5

abbrev pub decreases-type_key : goal.decreases-type_key
decreases-type_key l = 4 * l.levels + 4
