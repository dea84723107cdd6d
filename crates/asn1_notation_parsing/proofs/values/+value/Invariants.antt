-- The depth falls where a value is read in a value.
use Rattle.std.proofs.Common.{◌+◌, ◌*◌}
use Rattle.asn1_notation_parsing.proofs.values.+value.Given as goal

abbrev pub decreases-read_value : goal.decreases-read_value
decreases-read_value l = 4 * l.depth

abbrev pub decreases-read_element : goal.decreases-read_element
decreases-read_element l = 4 * l.depth + 1

abbrev pub decreases-read_list : goal.decreases-read_list
decreases-read_list l = 4 * l.depth + 2
