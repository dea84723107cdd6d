use Rattle.std.proofs.Common.{drop}
use Rattle.per_codec_packing.specs.WholeOctets.{AreWhole}
use Rattle.per_codec_packing.proofs.field_list_view.are_whole.Given as goal

abbrev pub invariant-loop-padding : goal.invariant-loop-padding
invariant-loop-padding l = AreWhole (drop l.padding-index l.paddings) → AreWhole l.paddings
