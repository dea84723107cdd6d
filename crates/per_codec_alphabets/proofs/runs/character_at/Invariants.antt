use Rattle.std.proofs.Common.{◌≡◌, drop}
use Rattle.per_codec_alphabets.specs.Codes.{runs_of, character_at as nth_character}
use Rattle.per_codec_alphabets.proofs.runs.character_at.Given as goal

abbrev pub invariant-loop-run : goal.invariant-loop-run
invariant-loop-run l = nth_character (runs_of (drop l.run-index l.runs)) l.left ≡ nth_character (runs_of l.runs) l.place
