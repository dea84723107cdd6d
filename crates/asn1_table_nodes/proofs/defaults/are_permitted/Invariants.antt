use Rattle.std.proofs.Common.{◌≡◌, drop}
use Rattle.asn1_values_alphabets.specs.Permitted.{permits_all}
use Rattle.asn1_table_nodes.proofs.defaults.are_permitted.Given as goal

abbrev pub invariant-loop-character : goal.invariant-loop-character
invariant-loop-character g l =
    permits_all g.K.CharacterKind.kind (drop l.character-index l.characters) ≡ permits_all g.K.CharacterKind.kind l.characters
