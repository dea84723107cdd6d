use Rattle.oer_codec_reading.proofs.Spelled.{at-wide}
use Rattle.oer_codec_reading.proofs.character_string.character_at.Goals as goal

pub returns-then-wide : goal.returns-then-wide
returns-then-wide c = at-wide c.args.wide c.args.octets.now c.args.place c.from.result c.from-then-wide.result c.if-wide.true c.requires c.from.ensures c.from-then-wide.ensures
