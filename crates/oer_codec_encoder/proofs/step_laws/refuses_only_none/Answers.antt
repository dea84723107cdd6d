use Rattle.oer_codec_encoder.proofs.Written as Written
use Rattle.oer_codec_encoder.proofs.step_laws.refuses_only_none.Goals as goal

pub returns : goal.returns
returns g c = Written.refuses_only_none g.W.Writer.is_writer
