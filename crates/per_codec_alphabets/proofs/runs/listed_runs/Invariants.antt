use Rattle.std.proofs.Common.{filter, take, map}
use Rattle.asn1_model.specs.Strings.{characters_of, is_among, run}
use Rattle.per_codec_alphabets.specs.Codes.{runs_of, SameCharacters}
use Rattle.per_codec_alphabets.proofs.runs.listed_runs.Given as goal

abbrev pub invariant-loop-character : goal.invariant-loop-character
invariant-loop-character g l = SameCharacters (runs_of l.runs.items) (map (λ c. run c c) (filter (is_among (characters_of g.S.StaticPermittedAlphabet.kind)) (take l.character-index l.characters)))
