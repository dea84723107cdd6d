use Rattle.std.proofs.Common.{◌≡◌, take}
use Rattle.per_codec_alphabets.specs.Codes.{runs_of, kept}
use Rattle.per_codec_alphabets.specs.Listed.{all_of}
use Rattle.per_codec_alphabets.proofs.few.FewRuns.listed.Given as goal

abbrev pub invariant-loop-character : goal.invariant-loop-character
invariant-loop-character g l = all_of (runs_of l.runs) ≡ kept g.S.StaticPermittedAlphabet.kind (take l.character-index l.characters)
