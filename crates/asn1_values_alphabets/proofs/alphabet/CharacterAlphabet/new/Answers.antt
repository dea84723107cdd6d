use Rattle.std.proofs.Common.{rules}
use Rattle.asn1_values_alphabets.proofs.Coded.{enough}
use Rattle.asn1_values_alphabets.proofs.alphabet.CharacterAlphabet.new.Goals as goal

pub invariant_of-result : goal.invariant_of-result
invariant_of-result c = record {
  ascending = search rules;
  enough = enough c.in_ok-characters.characters.items c.code_bits-width.result (search rules);
  narrow = c.code_bits-width.ensures.narrow;
  by_number = search rules;
}
