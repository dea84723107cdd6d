use Rattle.asn1_schema_laws.proofs.Levels as Levels
use Rattle.asn1_schema_laws.proofs.level_laws.chains_of_levels.Goals as goal

pub returns : goal.returns
returns c = Levels.nests
