use Rattle.std.proofs.Common.{◌≡◌, ap, subst, arith, rules}
use Rattle.std.specs.Prelude.{MatchBool}
use Rattle.std.proofs.lemmas.Grind.{common_steps}
use Rattle.per_codec_decoder.specs.Scopes.{Open, scopes_of, IsAdded}
use Rattle.per_codec_decoder.proofs.frames.Scopes.is_in_additions.Goals as goal

pub returns-in-Some-Added : goal.returns-in-Some-Added
returns-in-Some-Added c =
    let e : scopes_of c.self.inside.enclosing c.self.inside.frames ≡ c.args.self.now.scopes = ap (λ (o : Open). o.scopes) c.self.view_is in
    subst (λ s. MatchBool c.is_none.result (IsAdded s) (IsAdded s → ⊥)) e (first_of (search rules, grind (arith, common_steps)))
