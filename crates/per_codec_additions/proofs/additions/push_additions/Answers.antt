use Rattle.std.proofs.Common.{ap, ◌∙◌}
use Rattle.per_codec_additions.specs.Slots.{all_bits}
use Rattle.per_codec_additions.proofs.KeptSlots.{adds_kept}
use Rattle.per_codec_rules.specs.Variants.{is_aligned}
use Rattle.per_codec_additions.proofs.additions.push_additions.Goals as goal

pub returns : goal.returns
returns c =
    let places = c.as_slice-places in
    let shown = ap (λ l. all_bits l places.result.now) c.as_slice.ensures.value ∙ ap (all_bits c.slots.inside.shared.items) places.ensures.value ∙ c.slots.view_is in
    adds_kept (is_aligned c.args.variant) c.as_slice.result.now places.result.now c.args.slots.now c.args.output.now c.push_presence.new.output
    c.push_present.new.output shown c.in_ok-push_presence.ensures c.in_ok-push_present.ensures
