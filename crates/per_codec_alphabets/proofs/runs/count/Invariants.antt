use Rattle.std.proofs.Common.{◌≡◌, ◌+◌, drop}
use Rattle.asn1_model.specs.Strings.{how_many}
use Rattle.per_codec_alphabets.specs.Codes.{runs_of}
use Rattle.per_codec_alphabets.proofs.runs.count.Given as goal

abbrev pub invariant-loop-run : goal.invariant-loop-run
invariant-loop-run l = l.count + how_many (runs_of (drop l.run-index l.runs)) ≡ how_many (runs_of l.runs)
