use Rattle.asn1_schema_records.proofs.SameLimits.{limits_tell}
use Rattle.asn1_schema_records.proofs.items.Limits.are_among.Goals as goal

pub returns : goal.returns
returns c = limits_tell _ _ _ _ c.eq.ensures c.among.ensures
