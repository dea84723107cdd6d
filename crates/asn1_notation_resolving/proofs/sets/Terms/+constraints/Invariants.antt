-- The levels fall where a constraint is read in a constraint.
use Rattle.std.proofs.Common.{◌+◌, ◌*◌}
use Rattle.asn1_notation_resolving.proofs.sets.Terms.+constraints.Given as goal

abbrev pub decreases-add_constraint : goal.decreases-add_constraint
decreases-add_constraint l = 4 * l.sought.levels

abbrev pub decreases-add_extensible : goal.decreases-add_extensible
decreases-add_extensible l = 4 * l.sought.levels + 1

abbrev pub decreases-add_union : goal.decreases-add_union
decreases-add_union l = 4 * l.sought.levels + 1

abbrev pub decreases-add_intersection : goal.decreases-add_intersection
decreases-add_intersection l = 4 * l.sought.levels + 1

abbrev pub decreases-add_all : goal.decreases-add_all
decreases-add_all l = 4 * l.sought.levels + 1

abbrev pub decreases-add_contained : goal.decreases-add_contained
decreases-add_contained l = 4 * l.sought.levels + 2
