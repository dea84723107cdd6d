use Rattle.std.proofs.Common.{◌≡◌, drop}
use Rattle.std.specs.List.{list_all}
use Rattle.asn1_table_tape.specs.Values.{is_absence}
use Rattle.asn1_table_tape.proofs.noted.are_absent.Given as goal

abbrev pub invariant-loop-event : goal.invariant-loop-event
invariant-loop-event l = list_all is_absence (drop l.event-index l.events) ≡ list_all is_absence l.events
