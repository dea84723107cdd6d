use Rattle.std.proofs.Common.{◌≡◌, length, drop}
use Rattle.std.specs.Str.{chars}
use Rattle.asn1_values_alphabets.specs.Permitted.{first_refused}
use Rattle.asn1_values_alphabets.proofs.static_alphabet.string_of_text.Given as goal

abbrev pub invariant-loop-character : goal.invariant-loop-character
invariant-loop-character g l = record {
  made : g.S.StaticPermittedAlphabet.characters l.string ≡ l.yielded;
  first : first_refused g.S.StaticPermittedAlphabet.kind (drop (length l.yielded) (chars l.text)) ≡ first_refused g.S.StaticPermittedAlphabet.kind (chars l.text);
}
