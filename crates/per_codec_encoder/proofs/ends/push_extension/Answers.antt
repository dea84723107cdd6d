use Rattle.per_codec_encoder.proofs.Ending.{behind_bit_set}
use Rattle.per_codec_encoder.proofs.ends.push_extension.Goals as goal

pub returns-clause-some : goal.returns-clause-some
returns-clause-some c = λ e. behind_bit_set _ c.args.output.now c.set.new.self c.push_additions.new.output c.args.extension_bit c.set.ensures c.in_ok-push_additions.ensures
