use Rattle.oer_codec_encoder.proofs.Written as Written
use Rattle.oer_codec_encoder.proofs.step_laws.refused_by_records.Goals as goal

pub returns : goal.returns
returns c = Written.refused_by_records
