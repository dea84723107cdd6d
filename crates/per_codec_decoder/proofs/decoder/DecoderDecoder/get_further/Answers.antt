use Rattle.std.proofs.Common.{◌∷◌, ap, refl, sym, ◌∙◌}
use Rattle.per_codec_decoder.proofs.Settling.{due_member, now_ready}
use Rattle.per_codec_decoder.proofs.decoder.DecoderDecoder.get_further.Goals as goal

pub returns-then-take_due_member-clause-ok : goal.returns-then-take_due_member-clause-ok
returns-then-take_due_member-clause-ok c = due_member _ _ _ c.take_due_member.new.self.scopes
    (c.self.inside.place.storage ∷ c.take_due_member.new.self.behind) c.self.view_is
    (now_ready _ _ c.self.view_is (sym c.is_some.ensures ∙ c.in_ok-go_on.ensures.ok))
    (ap (λ l. c.self.inside.place.storage ∷ l) c.take_due_member.ensures.behind) (c.take_due_member.ensures.there c.if-take_due_member.true) refl
