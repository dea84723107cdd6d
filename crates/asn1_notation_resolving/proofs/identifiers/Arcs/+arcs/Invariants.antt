-- The levels fall where an object identifier begins with another.
use Rattle.std.proofs.Common.{◌+◌, ◌*◌}
use Rattle.asn1_notation_resolving.proofs.identifiers.Arcs.+arcs.Given as goal

abbrev pub decreases-add_all : goal.decreases-add_all
decreases-add_all l = 4 * l.levels + 3

abbrev pub decreases-add_parts : goal.decreases-add_parts
decreases-add_parts l = 4 * l.levels + 2

abbrev pub decreases-add_elements : goal.decreases-add_elements
decreases-add_elements l = 4 * l.levels + 2

abbrev pub decreases-add_part : goal.decreases-add_part
decreases-add_part l = 4 * l.levels + 1

abbrev pub decreases-add_named : goal.decreases-add_named
decreases-add_named l = 4 * l.levels
