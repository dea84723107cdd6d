use Rattle.std.proofs.Common.{◌≡◌, drop, take, length}
use Rattle.asn1_values_fields.specs.Written.{codes_of, appended}
use Rattle.asn1_values_fields.proofs.field_bits.push_characters.Given as goal

abbrev pub invariant-loop-character : goal.invariant-loop-character
invariant-loop-character l = record {
  done : appended l.buffer (codes_of l.alphabet (drop l.character-index l.characters)) ≡ appended l.initial.buffer (codes_of l.alphabet l.characters);
  kept : take (length l.initial.buffer) l.buffer ≡ l.initial.buffer;
}
