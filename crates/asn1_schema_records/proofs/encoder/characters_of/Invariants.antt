use Rattle.std.proofs.Common.{◌≡◌, ◌≤◌, take}
use Rattle.asn1_schema_records.proofs.encoder.characters_of.Given as goal

abbrev pub invariant-loop-place : goal.invariant-loop-place
invariant-loop-place g l = (l.characters.items ≡ take l.place (g.S.StaticPermittedAlphabet.characters l.string)) × (l.place ≤ l.count)
