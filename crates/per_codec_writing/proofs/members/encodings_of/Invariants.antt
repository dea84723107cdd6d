use Rattle.std.proofs.Common.{take}
use Rattle.per_codec_writing.specs.Keys.{AreKeyed}
use Rattle.per_codec_writing.proofs.members.encodings_of.Given as goal

abbrev pub invariant-loop-index : goal.invariant-loop-index
invariant-loop-index l = AreKeyed (take l.index l.members) l.encodings
