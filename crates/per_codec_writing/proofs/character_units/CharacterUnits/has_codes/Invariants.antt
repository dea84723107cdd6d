use Rattle.std.proofs.Common.{◌≡◌, drop}
use Rattle.std.specs.List.{list_all}
use Rattle.per_codec_alphabets.specs.Codes.{has_code}
use Rattle.per_codec_writing.proofs.character_units.CharacterUnits.has_codes.Given as goal

abbrev pub invariant-loop-place : goal.invariant-loop-place
invariant-loop-place g l =
    let cs = g.S.StaticPermittedAlphabet.characters l.self.string.now in
    list_all (has_code l.self.alphabet.now) (drop l.place cs) ≡ list_all (has_code l.self.alphabet.now) cs
