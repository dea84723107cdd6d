use Rattle.std.proofs.Common.{◌∙◌, ◌∷◌, ap, sym}
use Rattle.asn1_schema_laws.proofs.Joined.{raised}
use Rattle.per_codec_decoder.specs.Scopes.{scope_of, stands_in}
use Rattle.per_codec_decoder.proofs.Settling.{components_enter, not_ready, now_ready}
use Rattle.per_codec_decoder.proofs.decoder.Decoder.enter_components.Goals as goal

pub returns-in_err-go_on-clause-only : goal.returns-in_err-go_on-clause-only
returns-in_err-go_on-clause-only c = raised _ _ _ c.from_residual.ensures.1 (λ ready l. absurd (not_ready _ _ c.self.view_is (sym c.is_some.ensures ∙ c.in_err-go_on.ensures.only.1) ready))

pub returns-in-Ok-clause-ok : goal.returns-in-Ok-clause-ok
returns-in-Ok-clause-ok c = components_enter c.enter.result _ _ c.enter.new.self c.args.extensible c.args.optional (scope_of c.in-Ok.frame)
    c.read_preamble.new.place.place (stands_in c.in-Ok.frame (c.read_preamble.new.place.storage ∷ c.self.inside.scopes.behind)) c.self.view_is
    (now_ready _ _ c.self.view_is (sym c.is_some.ensures ∙ c.in_ok-go_on.ensures.ok))
    (c.in-Ok.ensures.inner (c.read_preamble.new.place.storage ∷ c.self.inside.scopes.behind) ∙
    ap (λ b. b ∷ c.self.inside.scopes.behind) c.in-Ok.ensures.storage) c.in-Ok.ensures.ok c.enter.ensures.levels c.enter.ensures.scopes
