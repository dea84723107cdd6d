use Rattle.std.proofs.Common.{◌∙◌, ◌∷◌, ap, refl, arith, sym}
use Rattle.per_codec_decoder.proofs.Opening.{ended, no_end, not_ended, further_out}
use Rattle.per_codec_decoder.proofs.Settling.{now_ready}
use Rattle.per_codec_decoder.proofs.Refused.{still_none, ended_owes, emptied_owes}
use Rattle.per_codec_decoder.proofs.decoder.DecoderDecoder.end.Goals as goal

pub returns-in-Ok-clause-ok : goal.returns-in-Ok-clause-ok
returns-in-Ok-clause-ok c = ended _ _ _ _ c.in-Some.ending _ c.pass_over.new.self.place _ _ _ c.self.view_is
    (now_ready _ _ c.self.view_is (sym c.is_some.ensures ∙ c.in_ok-go_on.ensures.ok)) (let t = c.if-self.false in omega (arith, t))
    c.in-Some.ensures.some refl c.in-Some.ensures.behind refl c.in-Ok.ensures.ok.1 (ap further_out (c.self-in-Ok.view_is ∙ c.in-Ok.ensures.ok.0))

pub returns-in-Err-clause-only : goal.returns-in-Err-clause-only
returns-in-Err-clause-only c =
    still_none (ended_owes _ _ _ _ _ c.in-Some.ending c.leave.new.self.scopes _ _ c.self.view_is (c.lack.ensures.kept ∙ c.in-Err.ensures.stays)
    c.lack.ensures.told c.in-Some.ensures.some c.in-Err.ensures.only)
    (not_ended _ _ _ c.in-Some.ending _ (c.self.inside.place.storage ∷ c.leave.new.self.behind) _ _ c.self.view_is c.lack.ensures.refused c.in-Some.ensures.some refl c.in-Err.ensures.only)

pub returns-in_default-clause-only : goal.returns-in_default-clause-only
returns-in_default-clause-only c = still_none (emptied_owes c.refuse-in_default.ensures.emptied) (no_end _ _ _ c.self.view_is c.in_default.ensures.none)
