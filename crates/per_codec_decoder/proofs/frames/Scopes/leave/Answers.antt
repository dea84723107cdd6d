use Rattle.std.proofs.Common.{◌≡◌, ◌≤◌, ◌∷◌, [], rules, sym, ap, ◌∙◌, arith}
use Rattle.per_codec_decoder.specs.Additions.{unknown_presence}
use Rattle.per_codec_decoder.specs.Scopes.{Open, scope_of, scopes_of}
use Rattle.per_codec_decoder.proofs.Due.{no_end_due, all_passed}
use Rattle.per_codec_decoder.proofs.frames.Scopes.leave.Goals as goal

pub returns-then-additions-gt0-clause-none : goal.returns-then-additions-gt0-clause-none
returns-then-additions-gt0-clause-none c =
    let x = c.in-Some-Added.additions in
    let k = c.close.new.self.scopes in
    let e = sym c.take.ensures.value ∙ c.in_default.is ∙ sym c.take.ensures.after in
    let s = ap (λ (o : Open). o.scopes) (sym c.self.view_is) ∙ ap (λ e. scopes_of e c.self.inside.frames) e ∙ c.in-Some-Added.ensures.some ∙ ap (λ f. scope_of f ∷ k) c.in-Some-Added.field-0-is in
    no_end_due x.left x.bitmap.place.1 (unknown_presence x) c.args.self.now.scopes k c.if-additions-gt0.true s

pub returns-then-is_empty-clause-some : goal.returns-then-is_empty-clause-some
returns-then-is_empty-clause-some c =
    let x = c.in-Some-Added.additions in
    let k = c.close.new.self.scopes in
    let e = sym c.take.ensures.value ∙ c.in_default.is ∙ sym c.take.ensures.after in
    let s = ap (λ (o : Open). o.scopes) (sym c.self.view_is) ∙ ap (λ e. scopes_of e c.self.inside.frames) e ∙ c.in-Some-Added.ensures.some ∙ ap (λ f. scope_of f ∷ k) c.in-Some-Added.field-0-is in
    let none : x.left ≤ 0 = let t = c.if-additions-gt0.false in omega (arith, t) in
    let empty : x.bitmap.place.1 ≡ [] = search rules in
    all_passed x.left x.bitmap.place.1 c.args.self.now.scopes k none empty s
