use Rattle.std.proofs.Common.{◌≡◌, ◌+◌, ◌<◌, ℕ, get_or, take}
use Rattle.std.specs.List.{range_with_len}
use Rattle.per_codec_alphabets.proofs.single.run_of_all.Given as goal

abbrev pub invariant-loop-place : goal.invariant-loop-place
invariant-loop-place l = record {
  all : take l.place l.characters ≡ range_with_len l.first l.place;
  each : (j : ℕ) → j < l.place → get_or l.characters j 0 ≡ l.first + j;
}
