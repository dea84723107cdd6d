use Rattle.std.proofs.Common.{ap, ◌∙◌}
use Rattle.per_codec_held_laws.specs.Held.{Held}
use Rattle.per_codec_decoder.proofs.Opening.{no_bitmap, none_come}
use Rattle.per_codec_decoder.proofs.Refused.{still_none, kept_owes, emptied_owes}
use Rattle.per_codec_decoder.proofs.decoder.DecoderDecoder.begin_additions.Goals as goal

pub returns-in-Err-clause-only : goal.returns-in-Err-clause-only
returns-in-Err-clause-only c = still_none (kept_owes (c.lack.ensures.kept ∙ ap (λ (h : Held). h.scopes) c.self.view_is) c.lack.ensures.told)
    (no_bitmap _ _ c.args.count c.in-Some.is_extended c.in-Some.ensures.some.0 c.in-Err.error _ c.self.view_is c.lack.ensures.refused c.in-Some.ensures.some.1 c.in-Err.ensures.only)

pub returns-in_default-clause-only : goal.returns-in_default-clause-only
returns-in_default-clause-only c = still_none (emptied_owes c.refuse.ensures.emptied) (none_come _ _ c.args.count _ c.self.view_is c.in_default.ensures.none)
