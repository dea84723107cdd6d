use Rattle.std.proofs.Common.{◌≡◌, ◌+◌, drop, option_map}
use Rattle.asn1_model.specs.Strings.{how_many, place_of}
use Rattle.per_codec_alphabets.specs.Codes.{runs_of}
use Rattle.per_codec_alphabets.proofs.runs.place_among.Given as goal

abbrev pub invariant-loop-run : goal.invariant-loop-run
invariant-loop-run l = record {
  many : l.before + how_many (runs_of (drop l.run-index l.runs)) ≡ how_many (runs_of l.runs);
  place : option_map (λ j. l.before + j) (place_of l.character (runs_of (drop l.run-index l.runs))) ≡ place_of l.character (runs_of l.runs);
}
