use Rattle.std.proofs.Common.{arith}
use Rattle.per_codec_alphabets.proofs.Places.{last_at}
use Rattle.per_codec_alphabets.proofs.runs.last_character.Goals as goal

pub returns-in-len1-up : goal.returns-in-len1-up
returns-in-len1-up c = let l = c.in-len1-up.len_at_least in last_at c.args.runs.now _ _ (omega arith)
