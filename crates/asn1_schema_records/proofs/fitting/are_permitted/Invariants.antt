use Rattle.std.proofs.Common.{◌≡◌, ℕ, ◌<◌, true, get_or}
use Rattle.asn1_values_alphabets.specs.Permitted.{permits}
use Rattle.asn1_schema_records.proofs.fitting.are_permitted.Given as goal

abbrev pub invariant-loop-character : goal.invariant-loop-character
invariant-loop-character g l = (k : ℕ) → k < l.character-index → permits g.S.StaticPermittedAlphabet.kind (get_or l.characters k 0) ≡ true
