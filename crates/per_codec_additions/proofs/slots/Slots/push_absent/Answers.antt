use Rattle.std.proofs.Common.{◌∙◌, ap, ◌++◌, ◌∷◌, [], None}
use Rattle.per_codec_additions.proofs.KeptSlots.{absent_bits, absent_kept}
use Rattle.per_codec_additions.proofs.slots.Slots.push_absent.Goals as goal

pub invariant_of-self-2 : goal.invariant_of-self-2
invariant_of-self-2 c =
    let was = c.self.inside in
    absent_kept was.shared.items was.slots.items c.push.new.self.items was.is_any_present c.self.invariant c.in_ok-push.ensures.items

pub returns-clause-ok : goal.returns-clause-ok
returns-clause-ok c =
    let was = c.self.inside in
    absent_bits was.shared.items was.slots.items c.push.new.self.items was.is_any_present c.self.invariant c.in_ok-push.ensures.items ∙ ap (λ os. os ++ None ∷ []) c.self.view_is
