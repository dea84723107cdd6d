use Rattle.std.proofs.Common.{◌≡◌, ◌≤◌, ◌++◌, take}
use Rattle.oer_codec_writing.proofs.character_string.push_narrow.Given as goal

abbrev pub invariant-loop-place : goal.invariant-loop-place
invariant-loop-place g l = record {
  added : l.octets.items ≡ l.fn.octets.items ++ take l.place (g.S.StaticPermittedAlphabet.characters l.value);
  within : l.place ≤ l.count;
}
