use Rattle.std.proofs.Common.{◌∙◌, ◌∷◌, refl, sym}
use Rattle.per_codec_decoder.proofs.Opening.{addition_ended, addition_open, no_addition_ends}
use Rattle.per_codec_decoder.proofs.Settling.{now_ready}
use Rattle.per_codec_decoder.proofs.Refused.{still_none, addition_owes, emptied_owes}
use Rattle.per_codec_decoder.proofs.decoder.DecoderDecoder.end_addition.Goals as goal

pub returns-in-Ok-clause-ok : goal.returns-in-Ok-clause-ok
returns-in-Ok-clause-ok c = addition_ended _ _ _ _ c.in-Some.behind _ _ _ _ c.self.view_is
    (now_ready _ _ c.self.view_is (sym c.is_some.ensures ∙ c.in_ok-go_on.ensures.ok)) c.in-Some.ensures.some refl c.in-Some.ensures.behind refl c.in-Ok.ensures.ok.0 c.in-Ok.ensures.ok.1

pub returns-in-Err-clause-only : goal.returns-in-Err-clause-only
returns-in-Err-clause-only c =
    still_none (addition_owes _ _ _ _ c.leave_addition.new.self.scopes c.self.view_is (c.lack.ensures.kept ∙ c.in-Err.ensures.stays)
    c.lack.ensures.told c.in-Some.ensures.some)
    (addition_open _ _ _ c.in-Some.behind _ (c.self.inside.place.storage ∷ c.leave_addition.new.self.behind) c.in-Err.error _ c.self.view_is c.in-Some.ensures.some refl c.in-Err.ensures.only)

pub returns-in_default-clause-only : goal.returns-in_default-clause-only
returns-in_default-clause-only c = still_none (emptied_owes c.refuse.ensures.emptied) (no_addition_ends _ _ _ c.self.view_is c.in_default.ensures.none)
