use Rattle.std.proofs.Common.{◌≡◌, true, ltb, take, ◌++◌, ◌∷◌, []}
use Rattle.asn1_model.specs.Lawful.{are_ascending}
use Rattle.per_codec_alphabets.specs.Codes.{runs_of, singles, kept, SameCharacters}
use Rattle.per_codec_alphabets.proofs.runs.kept_runs.Given as goal

-- the runs have the characters so far, which ascend, and any further one is not below the next
abbrev pub invariant-loop-character : goal.invariant-loop-character
invariant-loop-character g l = record {
  same : SameCharacters (runs_of l.runs.items) (singles (kept g.S.StaticPermittedAlphabet.kind (take l.character-index l.characters)));
  ascending : are_ascending ltb (kept g.S.StaticPermittedAlphabet.kind (take l.character-index l.characters) ++ l.next ∷ []) ≡ true;
}
