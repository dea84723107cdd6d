use Rattle.asn1_schema_laws.proofs.Levels as Levels
use Rattle.asn1_schema_laws.proofs.level_laws.levels_of_records.Goals as goal

pub returns : goal.returns
returns c = Levels.lowers
