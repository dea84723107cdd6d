-- Each function that writes a part of a type has a rank; the levels fall where a type is written in a type.
use Rattle.std.proofs.Common.{◌+◌, ◌*◌}
use Rattle.asn1_notation_printing.proofs.printing.Printer.+types.Given as goal

abbrev pub decreases-write_type : goal.decreases-write_type
decreases-write_type l = 8 * l.levels

abbrev pub decreases-write_component : goal.decreases-write_component
decreases-write_component l = 8 * l.levels + 1

abbrev pub decreases-write_alternative : goal.decreases-write_alternative
decreases-write_alternative l = 8 * l.levels + 1

abbrev pub decreases-write_list : goal.decreases-write_list
decreases-write_list l = 8 * l.levels + 1

abbrev pub decreases-write_addition : goal.decreases-write_addition
decreases-write_addition l = 8 * l.levels + 2

abbrev pub decreases-write_components : goal.decreases-write_components
decreases-write_components l = 8 * l.levels + 3

abbrev pub decreases-write_choice : goal.decreases-write_choice
decreases-write_choice l = 8 * l.levels + 3

abbrev pub decreases-write_content : goal.decreases-write_content
decreases-write_content l = 8 * l.levels + 4
