use mir.Val.{bool_byte}
use Rattle.std.proofs.Common.{ap, refl, ◌∙◌}
use Rattle.per_codec_additions.proofs.KeptSlots.{next_digits, next_fits}
use Rattle.per_codec_additions.proofs.additions.presence_number.Goals as goal

pub loop-slot-preserved : goal.loop-slot-preserved
loop-slot-preserved c =
    let at = c.loop-slot in
    let told = c.from.ensures ∙ ap bool_byte c.is_present.ensures in
    record {
      digits = next_digits c.args.slots.now at.slot-index at.number c.from.result _ _ c.loop-slot-test.true refl told at.invariant.digits;
      fits = next_fits c.args.slots.now at.slot-index at.number c.from.result _ _ c.loop-slot-test.true refl told at.invariant.fits;
    }
