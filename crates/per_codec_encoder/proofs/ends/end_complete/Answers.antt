use Rattle.std.proofs.Common.{◌≡◌, ◌∷◌, ◌∙◌, ap, drop, reverse, subst, sym}
use Rattle.asn1_schema_laws.specs.Records.{ends}
use Rattle.per_codec_encoder.specs.Holding.{Does}
use Rattle.per_codec_encoder.proofs.Innermost.{innermost_is}
use Rattle.per_codec_encoder.proofs.ends.end_complete.Goals as goal

pub returns-clause-ended : goal.returns-clause-ended
returns-clause-ended c = λ e al o.
    let s = c.others.inside in
    let k = reverse s.outer.items in
    let f = c.in-Some.innermost in
    let is = innermost_is c.args.others.now s.outer.items s.innermost f c.others.view_is c.in-Some.is in
    let left : c.close-closed.new.self ≡ k = c.close-closed.ensures.rest ∙ ap (λ l. drop 1 l) is in
    subst (λ l. Does al ends l o c.close-closed.new.self o) (sym is) (subst (λ l. Does al ends (f ∷ k) o l o) (sym left) (c.is_complete.ensures.complete c.if-not-is_complete.false al k o))
