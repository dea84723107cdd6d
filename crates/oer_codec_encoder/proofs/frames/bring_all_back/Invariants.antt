use Rattle.std.proofs.Common.{◌≡◌, length}
use Rattle.oer_codec_encoder.specs.EarlierOctets.{ground}
use Rattle.oer_codec_encoder.proofs.frames.bring_all_back.Given as goal

abbrev pub invariant-loop-frame : goal.invariant-loop-frame
invariant-loop-frame l = ground l.others l.octets.items ≡ ground l.fn.others l.fn.octets.items

abbrev pub decreases-loop-frame : goal.decreases-loop-frame
decreases-loop-frame l = length l.others
