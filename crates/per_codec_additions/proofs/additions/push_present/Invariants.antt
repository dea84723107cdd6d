use Rattle.std.proofs.Common.{drop}
use Rattle.per_codec_packing.specs.Packed.{Packed}
use Rattle.per_codec_additions.specs.Slots.{all_bits}
use Rattle.per_codec_additions.proofs.AdditionFieldLists.{Present}
use Rattle.per_codec_rules.specs.Variants.{is_aligned}
use Rattle.per_codec_additions.proofs.additions.push_present.Given as goal

abbrev pub invariant-loop-slot : goal.invariant-loop-slot
invariant-loop-slot l = (new : Packed) → Present (is_aligned l.variant) (all_bits l.shared (drop l.slot-index l.slots)) l.output new →
    Present (is_aligned l.variant) (all_bits l.shared l.slots) l.fn.output new
