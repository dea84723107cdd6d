use Rattle.std.proofs.Common.{◌≡◌, ◌*◌, take, drop, length, Some}
use Rattle.asn1_values_fields.specs.Written.{codes_of}
use Rattle.asn1_values_fields.proofs.reading.read_characters.Given as goal

abbrev pub invariant-loop-i : goal.invariant-loop-i
invariant-loop-i l = record {
  count : length l.characters.items ≡ l.i;
  codes : codes_of l.alphabet l.characters.items ≡ Some (take (l.i * l.alphabet.code_bits) l.initial.reader.bits);
  rest : l.reader.bits ≡ drop (l.i * l.alphabet.code_bits) l.initial.reader.bits;
}
