use Rattle.std.proofs.Common.{◌≡◌, take}
use Rattle.std.specs.Prelude.{flat_map}
use Rattle.asn1_model.specs.Numbers.{digits}
use Rattle.asn1_values_strings.proofs.bmp.BmpString.to_bytes.Given as goal

abbrev pub invariant-loop-character : goal.invariant-loop-character
invariant-loop-character l = l.octets.items ≡ flat_map (digits 256 2) (take l.character-index l.characters)
