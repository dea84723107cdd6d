use Rattle.std.proofs.Common.{◌≡◌, ◌+◌, [], ◌∷◌, ◌++◌, ap, sym, ◌∙◌, append_assoc}
use Rattle.std.specs.List.{range_with_len}
use Rattle.asn1_notation_constraints.proofs.Runs.{run_more}
use Rattle.asn1_notation_constraints.proofs.alphabets.push_run.Goals as goal

pub loop-offset-preserved : goal.loop-offset-preserved
loop-offset-preserved c =
    let before = c.args.characters.now.items in
    let next = c.args.first + c.loop-offset.offset in
    let pushed : c.push.new.self.items ≡ c.loop-offset.characters.items ++ next ∷ [] = c.in_ok-push.ensures.items in
    pushed
    ∙ ap (λ l. l ++ next ∷ []) c.loop-offset.invariant
    ∙ append_assoc before (range_with_len c.args.first c.loop-offset.offset) (next ∷ [])
    ∙ ap (λ l. before ++ l) (sym (run_more c.args.first c.loop-offset.offset))
