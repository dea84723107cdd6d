use Rattle.asn1_table_relay.proofs.Parts.{first_in, second_in, not_first, not_second}
use Rattle.asn1_table_relay.proofs.codecs.write_octets.Goals as goal

pub returns-in-Ok-clause-ok : goal.returns-in-Ok-clause-ok
returns-in-Ok-clause-ok c = first_in c.in-Ok.ensures.ok

pub returns-in-Ok-clause-same : goal.returns-in-Ok-clause-same
returns-in-Ok-clause-same c = second_in c.in-Ok.ensures.ok

pub returns-in-Err-clause-only : goal.returns-in-Err-clause-only
returns-in-Err-clause-only c = not_first c.in-Err.ensures.only

pub returns-in-Err-clause-same_only : goal.returns-in-Err-clause-same_only
returns-in-Err-clause-same_only c = not_second c.in-Err.ensures.only
