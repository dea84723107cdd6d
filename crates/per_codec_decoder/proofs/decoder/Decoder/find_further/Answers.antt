use Rattle.std.proofs.Common.{◌∷◌, Ok, ap, refl, subst, sym, ◌∙◌}
use Rattle.per_codec_laws.specs.Takes.{Position}
use Rattle.per_codec_reading.specs.Fronts.{freedoms, is_aligned}
use Rattle.per_codec_decoder.specs.Members.{NoFurther}
use Rattle.per_codec_decoder.proofs.Finding.{no_member}
use Rattle.per_codec_decoder.proofs.Refused.{still_none, emptied_owes}
use Rattle.per_codec_decoder.proofs.Settling.{found_member, moves_to, now_ready}
use Rattle.per_codec_decoder.proofs.decoder.Decoder.find_further.Goals as goal

pub returns-in-Ok-clause-ok : goal.returns-in-Ok-clause-ok
returns-in-Ok-clause-ok c = found_member (Ok c.in-Ok.more) (Ok c.in-Ok.more) _ _ _ _ c.cursor-cursor.result c.next_member.new.cursor
    c.position-position.result c.next_member.new.self.scopes (c.self.inside.place.storage ∷ c.next_member.new.self.behind) c.self.view_is
    (now_ready _ _ c.self.view_is (sym c.is_some.ensures ∙ c.in_ok-go_on.ensures.ok)) c.cursor-cursor.ensures c.position-position.ensures refl refl
    (ap (λ l. c.self.inside.place.storage ∷ l) c.in-Ok.ensures.behind) c.in-Ok.ensures.ok
    (moves_to c.self.inside.place c.move_to.new.self c.next_member.new.self.scopes c.self.inside.levels c.self.inside.most c.self.inside.failed
    c.self.inside.rules c.next_member.new.self.behind c.position-position.result c.move_to.ensures.place c.move_to.ensures.storage)

pub returns-in-Err-clause-only : goal.returns-in-Err-clause-only
returns-in-Err-clause-only c = still_none (emptied_owes c.refuse.ensures.emptied)
    (no_member _ _ c.in-Err.error _ c.self.view_is c.refuse.ensures.refused
    (subst (λ (p : Position). NoFurther (is_aligned c.self.inside.rules) (freedoms c.self.inside.rules) p c.self.inside.scopes.scopes c.in-Err.error) c.cursor-cursor.ensures c.in-Err.ensures.only))
