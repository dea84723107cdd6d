use Rattle.std.proofs.Common.{◌≡◌, true, take}
use Rattle.asn1_values_alphabets.specs.Permitted.{permits_all}
use Rattle.oer_codec_reading.specs.Characters.{characters_in}
use Rattle.oer_codec_reading.proofs.character_string.string_of.Given as goal

abbrev pub invariant-loop-place : goal.invariant-loop-place
invariant-loop-place g l = record {
  held : g.S.StaticPermittedAlphabet.characters l.string ≡ take l.place (characters_in l.wide l.octets);
  permitted : permits_all g.S.StaticPermittedAlphabet.kind (take l.place (characters_in l.wide l.octets)) ≡ true;
}
