use Rattle.std.proofs.Common.{◌≡◌, flat_map, length}
use Rattle.per_codec_writing.specs.Characters.{low_bits}
use Rattle.per_codec_packing.specs.FieldLists.{as_field_list}
use Rattle.per_codec_writing.specs.Writing.{plus}
use Rattle.per_codec_writing.proofs.number_units.push_low_bits.Given as goal

abbrev pub invariant-loop-rest : goal.invariant-loop-rest
invariant-loop-rest l = plus l.output (as_field_list (flat_map (low_bits l.base l.width) l.rest)) ≡ plus l.initial.output (as_field_list (flat_map (low_bits l.base l.width) l.octets))

abbrev pub decreases-loop-rest : goal.decreases-loop-rest
decreases-loop-rest l = length l.rest
