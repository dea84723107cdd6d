use Rattle.std.proofs.Common.{◌≡◌, ◌-◌, ◌^◌, [], ◌∷◌, min, reverse, ap, sym, ◌∙◌}
use Rattle.asn1_schema_scopes.specs.Stacks.{stacked}
use Rattle.oer_codec_decoder.proofs.Owing.{all_due, last_due}
use Rattle.oer_codec_decoder.proofs.frames.all_frames_due.Goals as goal

pub returns-in-Ok : goal.returns-in-Ok
returns-in-Ok c =
    let s = c.frames.inside in
    let e : c.args.frames.now ≡ c.in-Some.innermost ∷ reverse s.outer.items = sym c.frames.view_is ∙ ap (λ i. stacked i s.outer.items) c.in-Some.is in
    let f = ap (λ n. min n (2 ^ 64 - 1)) (all_due c.args.frames.now c.in-Some.innermost c.outer.result.now _ e c.outer.ensures) in
    let a = c.add_due in
    let l = sym (c.in-Ok.ensures.ok (c.in-Some.innermost ∷ [])) in
    c.unwrap_or.ensures ∙ last_due a.result c.in-Ok.due _ c.in-Some.innermost a.ensures.some a.ensures.most a.ensures.none c.in-Ok.ensures.most l ∙ f

pub returns-in-Err : goal.returns-in-Err
returns-in-Err c =
    let s = c.frames.inside in
    let e : c.args.frames.now ≡ c.in-Some.innermost ∷ reverse s.outer.items = sym c.frames.view_is ∙ ap (λ i. stacked i s.outer.items) c.in-Some.is in
    let f = ap (λ n. min n (2 ^ 64 - 1)) (all_due c.args.frames.now c.in-Some.innermost c.outer.result.now _ e c.outer.ensures) in
    sym (c.in-Err.ensures.within (c.in-Some.innermost ∷ [])) ∙ f
