use Rattle.std.proofs.Common.{◌∙◌, sym}
use Rattle.asn1_table_nodes.specs.Values.{scalar_of}
use Rattle.asn1_table_tape.specs.Values.{is_scalar}
use Rattle.asn1_table_tape.proofs.Behind.{event_behind, event_missed, no_event}
use Rattle.asn1_table_tape.proofs.defaults.behind_scalar.Goals as goal

pub returns-then-is_same : goal.returns-then-is_same
returns-then-is_same c =
    sym (event_behind (is_scalar (scalar_of c.args.simple.now)) c.args.value.now c.in-Some.first.now c.in-Some.rest.now c.in-Some.ensures.cases.0 (sym c.is_same.ensures ∙ c.if-is_same.true))

pub returns-else-is_same : goal.returns-else-is_same
returns-else-is_same c =
    sym (event_missed (is_scalar (scalar_of c.args.simple.now)) c.args.value.now c.in-Some.first.now c.in-Some.rest.now c.in-Some.ensures.cases.0 (sym c.is_same.ensures ∙ c.if-is_same.false))

pub returns-in-None : goal.returns-in-None
returns-in-None c = sym (no_event (is_scalar (scalar_of c.args.simple.now)) c.args.value.now c.in-None.ensures.cases)
