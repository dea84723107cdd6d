use Rattle.asn1_schema_laws.specs.Tables.{scope, components_at, sequence_type}
use Rattle.asn1_relay_command.proofs.program.send_all.Goals as goal

pub returns-in-Plain : goal.returns-in-Plain
unfolding scope components_at sequence_type
returns-in-Plain c = rw c.in-Plain.is c.send_as.ensures

pub returns-in-Default : goal.returns-in-Default
unfolding scope components_at sequence_type
returns-in-Default c = rw c.in-Default.is c.send_as-in-Default.ensures

pub returns-in-Required : goal.returns-in-Required
unfolding scope components_at sequence_type
returns-in-Required c = rw c.in-Required.is c.send_as-in-Required.ensures
