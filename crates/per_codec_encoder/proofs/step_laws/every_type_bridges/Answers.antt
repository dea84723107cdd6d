use Rattle.per_codec_encoder.proofs.Types as Types
use Rattle.per_codec_encoder.proofs.step_laws.every_type_bridges.Goals as goal

pub returns : goal.returns
returns c = Types.every_type
