use Rattle.oer_codec_encoder.proofs.Written as Written
use Rattle.oer_codec_encoder.proofs.step_laws.writes_the_octets.Goals as goal

pub returns : goal.returns
returns g c = Written.writes_the_octets g.W.Writer.is_writer
