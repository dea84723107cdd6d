use Rattle.oer_codec_reading.specs.Fronts.{freedoms}
use Rattle.oer_codec_reading.proofs.Truths.{nothing_stands}
use Rattle.oer_codec_reading.proofs.boolean.read_null.Goals as goal

pub returns-clause-ok : goal.returns-clause-ok
returns-clause-ok c = nothing_stands (freedoms c.args.rules) c.args.cursor.now
