use Rattle.std.proofs.Common.{◌≡◌, ◌≤◌, ◌++◌, take}
use Rattle.std.specs.Prelude.{flat_map}
use Rattle.asn1_model.specs.Numbers.{digits}
use Rattle.oer_codec_writing.proofs.character_string.push_wide.Given as goal

abbrev pub invariant-loop-place : goal.invariant-loop-place
invariant-loop-place g l = record {
  added : l.octets.items ≡ l.fn.octets.items ++ flat_map (digits 256 2) (take l.place (g.S.StaticPermittedAlphabet.characters l.value));
  within : l.place ≤ l.count;
}
