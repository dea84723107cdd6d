-- Each function that reads a part of a type or of a constraint has a rank; the depth falls where a type is read in a type,
-- and where elements of constraints are read in elements.
use Rattle.std.proofs.Common.{◌+◌, ◌*◌}
use Rattle.asn1_notation_syntax.proofs.+types.Given as goal

abbrev pub decreases-types::read_type : goal.decreases-types::read_type
decreases-types::read_type l = 8 * l.depth

abbrev pub decreases-components::read_component : goal.decreases-components::read_component
decreases-components::read_component l = 8 * l.depth + 1

abbrev pub decreases-components::read_group : goal.decreases-components::read_group
decreases-components::read_group l = 8 * l.depth + 2

abbrev pub decreases-components::read_addition : goal.decreases-components::read_addition
decreases-components::read_addition l = 8 * l.depth + 3

abbrev pub decreases-components::read_components : goal.decreases-components::read_components
decreases-components::read_components l = 8 * l.depth + 4

abbrev pub decreases-collections::read_collection : goal.decreases-collections::read_collection
decreases-collections::read_collection l = 8 * l.depth + 7

abbrev pub decreases-parameters::read_actual_parameter : goal.decreases-parameters::read_actual_parameter
decreases-parameters::read_actual_parameter l = 8 * l.depth + 1

abbrev pub decreases-parameters::read_actual_parameters : goal.decreases-parameters::read_actual_parameters
decreases-parameters::read_actual_parameters l = 8 * l.depth + 2

abbrev pub decreases-types::read_named : goal.decreases-types::read_named
decreases-types::read_named l = 8 * l.depth + 3

abbrev pub decreases-constraints::read_elements : goal.decreases-constraints::read_elements
decreases-constraints::read_elements l = 8 * l.depth + 1

abbrev pub decreases-constraints::read_exclusion : goal.decreases-constraints::read_exclusion
decreases-constraints::read_exclusion l = 8 * l.depth + 2

abbrev pub decreases-constraints::read_intersection : goal.decreases-constraints::read_intersection
decreases-constraints::read_intersection l = 8 * l.depth + 3

abbrev pub decreases-constraints::read_union : goal.decreases-constraints::read_union
decreases-constraints::read_union l = 8 * l.depth + 4

abbrev pub decreases-constraints::read_specification : goal.decreases-constraints::read_specification
decreases-constraints::read_specification l = 8 * l.depth + 5

abbrev pub decreases-constraints::read_parenthesized : goal.decreases-constraints::read_parenthesized
decreases-constraints::read_parenthesized l = 8 * l.depth + 6

abbrev pub decreases-constraints::read_constraints : goal.decreases-constraints::read_constraints
decreases-constraints::read_constraints l = 8 * l.depth + 7

abbrev pub decreases-inner::read_component_constraint : goal.decreases-inner::read_component_constraint
decreases-inner::read_component_constraint l = 8 * l.depth + 7

abbrev pub decreases-inner::read_inner : goal.decreases-inner::read_inner
decreases-inner::read_inner l = 8 * l.depth + 8
