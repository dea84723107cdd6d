use Rattle.per_codec_reading.specs.Fronts.{freedoms, is_aligned}
use Rattle.per_codec_reading.proofs.NumberFronts.{nothing_stands}
use Rattle.per_codec_reading.proofs.boolean.read_null.Goals as goal

pub returns-clause-ok : goal.returns-clause-ok
returns-clause-ok c = nothing_stands (freedoms c.args.rules) (is_aligned c.args.rules) c.args.cursor.now
