use Rattle.std.proofs.Common.{◌≡◌, map, length}
use Rattle.per_codec_packing.specs.FieldLists.{as_field_list}
use Rattle.per_codec_additions.specs.Slots.{is_there}
use Rattle.per_codec_writing.specs.Writing.{plus}
use Rattle.per_codec_additions.proofs.additions.push_presence_bits.Given as goal

abbrev pub invariant-loop-rest : goal.invariant-loop-rest
invariant-loop-rest l = plus l.output (as_field_list (map is_there l.rest)) ≡ plus l.initial.output (as_field_list (map is_there l.slots))

abbrev pub decreases-loop-rest : goal.decreases-loop-rest
decreases-loop-rest l = length l.rest
