use Rattle.asn1_schema_laws.proofs.OneValue as Values
use Rattle.asn1_schema_laws.proofs.record_laws.one_value.Goals as goal

pub returns : goal.returns
returns g c = Values.one_value g.S.States.one_record
