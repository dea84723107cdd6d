-- The levels fall where components are read in a COMPONENTS OF.
use Rattle.std.proofs.Common.{◌+◌, ◌*◌}
use Rattle.asn1_notation_components.proofs.parts.Gathering.+components.Given as goal

abbrev pub decreases-add : goal.decreases-add
decreases-add l = 3 * l.levels + 2

abbrev pub decreases-add_components_of : goal.decreases-add_components_of
decreases-add_components_of l = 3 * l.levels

abbrev pub decreases-add_included : goal.decreases-add_included
decreases-add_included l = 3 * l.levels + 1
