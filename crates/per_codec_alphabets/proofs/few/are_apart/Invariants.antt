use Rattle.std.proofs.Common.{◌≡◌, drop}
use Rattle.per_codec_alphabets.specs.Codes.{runs_of}
use Rattle.per_codec_alphabets.specs.Listed.{begin_from}
use Rattle.per_codec_alphabets.proofs.few.are_apart.Given as goal

abbrev pub invariant-loop-run : goal.invariant-loop-run
invariant-loop-run l = begin_from l.next (runs_of (drop l.run-index l.runs)) ≡ begin_from 0 (runs_of l.runs)
