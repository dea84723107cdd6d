use Rattle.std.proofs.Common.{◌≡◌, take}
use Rattle.asn1_schema_records.proofs.fitting.string_of.Given as goal

abbrev pub invariant-loop-character : goal.invariant-loop-character
invariant-loop-character g l = g.S.StaticPermittedAlphabet.characters l.string ≡ take l.character-index l.characters
