use Rattle.per_codec_encoder.proofs.Written as Written
use Rattle.per_codec_encoder.proofs.step_laws.written_by_records.Goals as goal

pub returns : goal.returns
returns c = Written.written_by_records
