use Rattle.std.proofs.Common.{◌∙◌, ap, ◌++◌, ◌∷◌, [], Some, refl}
use Rattle.std.proofs.lemmas.Result.{err_from_is_err_and}
use Rattle.per_codec_additions.proofs.KeptSlots.{same_bits, still_kept, one_more, more_kept}
use Rattle.per_codec_additions.proofs.slots.Slots.push_present.Goals as goal

pub invariant_of-self : goal.invariant_of-self
invariant_of-self c =
    let was = c.self.inside in
    let more = c.keep.ensures.grown in
    still_kept was.shared.items more.0 c.keep.new.shared.items was.slots.items was.slots.items was.is_any_present c.self.invariant more.1 refl

pub returns-in_err-slot-clause-err : goal.returns-in_err-slot-clause-err
returns-in_err-slot-clause-err c =
    let was = c.self.inside in
    let more = c.keep.ensures.grown in
    let exit = err_from_is_err_and c.from_residual.result c.from_residual.ensures.1 in
    rw exit.1 (same_bits was.shared.items more.0 c.keep.new.shared.items was.slots.items was.slots.items was.is_any_present c.self.invariant more.1 refl ∙ c.self.view_is)

pub invariant_of-self-in_err-push : goal.invariant_of-self-in_err-push
invariant_of-self-in_err-push c =
    let was = c.self.inside in
    let more = c.keep.ensures.grown in
    still_kept was.shared.items more.0 c.keep.new.shared.items was.slots.items c.push.new.self.items was.is_any_present c.self.invariant more.1 c.in_err-push.ensures.items

pub returns-in_err-push-clause-err : goal.returns-in_err-push-clause-err
returns-in_err-push-clause-err c =
    let was = c.self.inside in
    let more = c.keep.ensures.grown in
    let exit = err_from_is_err_and c.from_residual-in_err-push.result c.from_residual-in_err-push.ensures.1 in
    rw exit.1 (same_bits was.shared.items more.0 c.keep.new.shared.items was.slots.items c.push.new.self.items was.is_any_present c.self.invariant more.1 c.in_err-push.ensures.items ∙ c.self.view_is)

pub invariant_of-self-2 : goal.invariant_of-self-2
invariant_of-self-2 c =
    let was = c.self.inside in
    let more = c.keep.ensures.grown in
    more_kept was.shared.items more.0 c.keep.new.shared.items was.slots.items c.push.new.self.items was.is_any_present c.self.invariant more.1
    c.in_ok-slot.slot c.args.contents.now c.in_ok-slot.ensures.kept c.in_ok-push.ensures.items

pub returns-clause-ok : goal.returns-clause-ok
returns-clause-ok c =
    let was = c.self.inside in
    let more = c.keep.ensures.grown in
    one_more was.shared.items more.0 c.keep.new.shared.items was.slots.items c.push.new.self.items was.is_any_present c.self.invariant more.1
    c.in_ok-slot.slot c.args.contents.now c.in_ok-slot.ensures.kept c.in_ok-push.ensures.items
    ∙ ap (λ os. os ++ Some c.args.contents.now ∷ []) c.self.view_is
