use Rattle.std.proofs.Common.{◌≡◌, ◌∷◌, ◌∙◌, ap, reverse, subst, sym}
use Rattle.asn1_schema_laws.specs.Records.{ends}
use Rattle.asn1_schema_scopes.specs.Stacks.{stacked}
use Rattle.oer_codec_encoder.specs.Holding.{Cannot}
use Rattle.oer_codec_encoder.proofs.Refusals.{passed_on}
use Rattle.oer_codec_encoder.proofs.frames.end_other.Goals as goal

pub returns-in_err-end_frame-clause-step : goal.returns-in_err-end_frame-clause-step
returns-in_err-end_frame-clause-step c =
    let o = c.args.octets.now.items in
    let s = c.others.inside in
    let k = reverse s.outer.items in
    let e : c.args.others.now ≡ c.in-Some.frame ∷ k = sym c.others.view_is ∙ ap (λ i. stacked i s.outer.items) c.in-Some.is in
    passed_on _ (Cannot ends c.args.others.now o) _ _ c.from_residual.ensures.0 c.from_residual.ensures.1
    (subst (λ l. Cannot ends l o c.in_err-end_frame.field-0.0) (sym e) (c.in_err-end_frame.ensures.step k))
