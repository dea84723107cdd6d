use Rattle.std.proofs.Common.{◌∙◌, sym}
use Rattle.asn1_table_tape.specs.Values.{has_mark}
use Rattle.asn1_table_tape.proofs.Behind.{event_behind, event_missed, no_event}
use Rattle.asn1_table_tape.proofs.defaults.behind_mark.Goals as goal

pub returns-then-has_mark : goal.returns-then-has_mark
returns-then-has_mark c = sym (event_behind (has_mark c.args.mark) c.args.value.now c.in-Some.first.now c.in-Some.rest.now c.in-Some.ensures.cases.0 (sym c.has_mark.ensures ∙ c.if-has_mark.true))

pub returns-else-has_mark : goal.returns-else-has_mark
returns-else-has_mark c = sym (event_missed (has_mark c.args.mark) c.args.value.now c.in-Some.first.now c.in-Some.rest.now c.in-Some.ensures.cases.0 (sym c.has_mark.ensures ∙ c.if-has_mark.false))

pub returns-in-None : goal.returns-in-None
returns-in-None c = sym (no_event (has_mark c.args.mark) c.args.value.now c.in-None.ensures.cases)
