use Rattle.std.proofs.Common.{refl}
use Rattle.per_codec_additions.proofs.KeptSlots.{kept_at, slot_next, slots_passed}
use Rattle.per_codec_rules.specs.Variants.{is_aligned}
use Rattle.per_codec_additions.proofs.additions.push_present.Goals as goal

pub push-requires : goal.push-requires
push-requires c = kept_at c.args.shared.now c.args.slots.now c.loop-slot.slot-index _ _ c.requires c.loop-slot-test.true refl

pub loop-slot-preserved : goal.loop-slot-preserved
loop-slot-preserved c = λ new p.
    let slot = c.in_ok-push.ensures in
    c.loop-slot.invariant new (slot_next (is_aligned c.args.variant) c.args.shared.now c.args.slots.now c.loop-slot.slot-index _ _ c.loop-slot.output
    c.push.new.output new c.loop-slot-test.true refl slot.present slot.absent p)

pub returns : goal.returns
returns c = c.loop-slot.invariant c.loop-slot.output (slots_passed (is_aligned c.args.variant) c.args.shared.now c.args.slots.now c.loop-slot.slot-index c.loop-slot.output c.loop-slot-test.false)
