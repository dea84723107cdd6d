use Rattle.std.proofs.Common.{◌≡◌, ◌∷◌, [], ◌-◌, ◌^◌, min, reverse, ap, sym, ◌∙◌, arith}
use Rattle.asn1_schema_scopes.specs.Stacks.{stacked}
use Rattle.per_codec_decoder.proofs.Owing.{all_due, next_frame, open_frame, last_frame, last_due}
use Rattle.per_codec_decoder.proofs.frames.frames_due.Goals as goal

pub loop-frame-init : goal.loop-frame-init
loop-frame-init c = (ap (λ n. min n (2 ^ 64 - 1)) (omega arith), omega arith)

pub returns-in_default-add_due : goal.returns-in_default-add_due
returns-in_default-add_due c =
    let s = c.frames.inside in
    let e : c.args.frames.now ≡ c.in-Some.innermost ∷ reverse s.outer.items = sym c.frames.view_is ∙ ap (λ i. stacked i s.outer.items) c.in-Some.is in
    open_frame c.outer-frame-items.result.now (c.in-Some.innermost ∷ []) c.loop-frame.frame-index c.loop-frame.due _ c.frame-item.result
    c.loop-frame-test.true c.frame-item.is c.in_default-add_due.ensures.none c.loop-frame.invariant.1 c.loop-frame.invariant.0
    ∙ ap (λ n. min n (2 ^ 64 - 1)) (all_due c.args.frames.now c.in-Some.innermost c.outer-frame-items.result.now _ e c.outer-frame-items.ensures)

pub loop-frame-preserved : goal.loop-frame-preserved
loop-frame-preserved c = (
  next_frame c.outer-frame-items.result.now (c.in-Some.innermost ∷ []) c.loop-frame.frame-index c.loop-frame.due c.in-Some-add_due.more _
      c.frame-item.result c.loop-frame-test.true c.frame-item.is c.in-Some-add_due.ensures.some c.loop-frame.invariant.0,
  c.in-Some-add_due.ensures.most,
)

pub returns : goal.returns
returns c =
    let s = c.frames.inside in
    let e : c.args.frames.now ≡ c.in-Some.innermost ∷ reverse s.outer.items = sym c.frames.view_is ∙ ap (λ i. stacked i s.outer.items) c.in-Some.is in
    let l = last_frame c.outer-frame-items.result.now c.loop-frame.frame-index c.in-Some.innermost c.loop-frame.due _ c.loop-frame-test.false
    c.loop-frame.auto.frame-index-end c.loop-frame.invariant.0 in
    let f = ap (λ n. min n (2 ^ 64 - 1)) (all_due c.args.frames.now c.in-Some.innermost c.outer-frame-items.result.now _ e c.outer-frame-items.ensures) in
    c.unwrap_or.ensures ∙ last_due c.add_due-2.result c.loop-frame.due _ c.in-Some.innermost c.add_due-2.ensures.some c.add_due-2.ensures.most c.add_due-2.ensures.none c.loop-frame.invariant.1 l ∙ f
