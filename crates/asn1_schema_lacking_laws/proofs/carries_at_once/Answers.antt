use Rattle.asn1_schema_lacking_laws.proofs.AtOnce.{records_at_once, values_at_once, members_at_once}
use Rattle.asn1_schema_lacking_laws.proofs.carries_at_once.Goals as goal

pub returns : goal.returns
returns g c = (records_at_once _, values_at_once _, members_at_once _ g.S.States.one_record)
