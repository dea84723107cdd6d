use Rattle.std.proofs.Common.{◌≡◌, ap, subst, arith, rules, IfSome}
use Rattle.std.proofs.lemmas.Grind.{common_steps}
use Rattle.per_codec_decoder.specs.Scopes.{Open, scopes_of, HasExtensionBit}
use Rattle.per_codec_decoder.proofs.frames.Scopes.extension_bit.Goals as goal

pub returns-in-Some-Components-clause-some : goal.returns-in-Some-Components-clause-some
returns-in-Some-Components-clause-some c =
    let e : scopes_of c.self.inside.enclosing c.self.inside.frames ≡ c.args.self.now.scopes = ap (λ (o : Open). o.scopes) c.self.view_is in
    subst (λ s. IfSome c.in-Some-Components.bit (λ m. HasExtensionBit m s)) e (first_of (search rules, grind (arith, common_steps)))
