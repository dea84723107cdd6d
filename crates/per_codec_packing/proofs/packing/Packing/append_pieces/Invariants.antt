use Rattle.asn1_values_bits.specs.BitStr.{bits_of}
use Rattle.per_codec_packing.proofs.Appending.{IsAdded}
use Rattle.per_codec_packing.proofs.packing.Packing.append_pieces.Given as goal

abbrev pub invariant-loop-padding : goal.invariant-loop-padding
invariant-loop-padding l = IsAdded (bits_of l.field_list.bits) l.field_list.paddings.now l.from l.padding-index l.fn.self l.self
