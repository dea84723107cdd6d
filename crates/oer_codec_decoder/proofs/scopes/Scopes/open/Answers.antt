use Rattle.std.proofs.Common.{◌∷◌, ap, sym, ◌∙◌}
use Rattle.oer_codec_laws.specs.Takes.{members}
use Rattle.oer_codec_decoder.specs.Scopes.{scope_of}
use Rattle.oer_codec_decoder.proofs.Counting.{list_with_due}
use Rattle.oer_codec_decoder.proofs.scopes.Scopes.open.Goals as goal

pub invariant_of-self-in-Members : goal.invariant_of-self-in-Members
invariant_of-self-in-Members c _ = (_, c.in_ok-open.ensures)

pub returns-in-Members : goal.returns-in-Members
returns-in-Members c =
    list_with_due c.in-Members.due c.open.new.self _ c.in_ok-open.ensures
    ∙ ap (λ k. members c.in-Members.due ∷ k) (c.settle.ensures.given ∙ c.self.view_is)
    ∙ ap (λ f. scope_of f ∷ c.args.self.now) (sym c.in-Members.is)
