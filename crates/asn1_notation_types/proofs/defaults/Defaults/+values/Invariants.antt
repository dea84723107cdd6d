-- The levels fall where a value is read in a value.
use Rattle.std.proofs.Common.{◌+◌, ◌*◌}
use Rattle.asn1_notation_types.proofs.defaults.Defaults.+values.Given as goal

abbrev pub decreases-value_of : goal.decreases-value_of
decreases-value_of l = 4 * l.levels

abbrev pub decreases-elements_of : goal.decreases-elements_of
decreases-elements_of l = 4 * l.levels + 1

abbrev pub decreases-chosen_of : goal.decreases-chosen_of
decreases-chosen_of l = 4 * l.levels + 1

abbrev pub decreases-part_of : goal.decreases-part_of
decreases-part_of l = 4 * l.levels + 1

abbrev pub decreases-additions_of : goal.decreases-additions_of
decreases-additions_of l = 4 * l.levels + 2

abbrev pub decreases-components_of : goal.decreases-components_of
decreases-components_of l = 4 * l.levels + 3
