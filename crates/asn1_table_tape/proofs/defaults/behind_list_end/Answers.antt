use Rattle.std.proofs.Common.{◌∙◌, sym, ap}
use Rattle.std.specs.Prelude.{option_and_then, option_copied}
use Rattle.asn1_table_tape.specs.declared.defaults.Mark.TheVariants.{Closes}
use Rattle.asn1_table_tape.specs.Values.{has_mark, behind_event}
use Rattle.asn1_table_tape.proofs.defaults.behind_list_end.Goals as goal

pub returns-in-None : goal.returns-in-None
returns-in-None c = sym (ap (λ o. option_and_then (λ rest. behind_event (has_mark Closes) rest) o) (sym c.behind_mark.ensures ∙ ap option_copied c.in-None.is))

pub returns-in-Some : goal.returns-in-Some
returns-in-Some c = c.behind_mark-in-Some.ensures ∙ sym (ap (λ o. option_and_then (λ rest. behind_event (has_mark Closes) rest) o) (sym c.behind_mark.ensures ∙ ap option_copied c.in-Some.is))
