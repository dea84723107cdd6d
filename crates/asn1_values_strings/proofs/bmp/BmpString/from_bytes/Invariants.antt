use Rattle.std.proofs.Common.{◌≡◌, ◌*◌, take}
use Rattle.std.specs.Prelude.{flat_map}
use Rattle.asn1_model.specs.Numbers.{digits}
use Rattle.asn1_values_strings.proofs.bmp.BmpString.from_bytes.Given as goal

abbrev pub invariant-loop-i : goal.invariant-loop-i
invariant-loop-i l = flat_map (digits 256 2) l.characters.items ≡ take (2 * l.i) l.bytes
