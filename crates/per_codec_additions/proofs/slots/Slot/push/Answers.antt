use Rattle.std.proofs.Common.{◌≡◌, Some, ap, sym, ◌∙◌}
use Rattle.per_codec_additions.specs.Slots.{complete_octets}
use Rattle.per_codec_additions.proofs.KeptSlots.{adds_complete}
use Rattle.per_codec_rules.specs.Variants.{is_aligned}
use Rattle.per_codec_additions.proofs.slots.Slot.push.Goals as goal

pub returns-clause-present : goal.returns-clause-present
returns-clause-present c = λ bits e.
    let kept = c.in-Some.ensures in
    let given : Some kept.0 ≡ Some bits = sym kept.1 ∙ e in
    let same : kept.0 ≡ bits = cc in
    adds_complete (is_aligned c.args.variant) bits c.in-Some.octets.now c.args.output.now c.push_counted_octets.new.output (kept.2 ∙ ap complete_octets same) c.in_ok-push_counted_octets.ensures
