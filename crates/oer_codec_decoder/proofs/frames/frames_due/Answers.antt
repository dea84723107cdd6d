use Rattle.std.proofs.Common.{◌-◌, ◌^◌, min, ap, sym, arith}
use Rattle.oer_codec_decoder.proofs.Owing.{next_frame, open_frame, last_frame}
use Rattle.oer_codec_decoder.proofs.frames.frames_due.Goals as goal

pub loop-frame-init : goal.loop-frame-init
loop-frame-init c = (λ fs. ap (λ n. min n (2 ^ 64 - 1)) (omega arith), omega arith)

pub returns-in_default-clause-within : goal.returns-in_default-clause-within
returns-in_default-clause-within c = λ fs.
    sym (open_frame c.args.frames.now fs c.loop-frame.frame-index c.loop-frame.due _ c.frame-item.result c.loop-frame-test.true c.frame-item.is
    c.in_default.ensures.none c.loop-frame.invariant.1 (c.loop-frame.invariant.0 fs))

pub loop-frame-preserved : goal.loop-frame-preserved
loop-frame-preserved c = (
  λ fs. next_frame c.args.frames.now fs c.loop-frame.frame-index c.loop-frame.due c.in-Some.more _ c.frame-item.result c.loop-frame-test.true
      c.frame-item.is c.in-Some.ensures.some (c.loop-frame.invariant.0 fs),
  c.in-Some.ensures.most,
)

pub returns-clause-ok : goal.returns-clause-ok
returns-clause-ok c = λ fs. sym (last_frame c.args.frames.now fs c.loop-frame.frame-index c.loop-frame.due _ c.loop-frame-test.false c.loop-frame.auto.frame-index-end (c.loop-frame.invariant.0 fs))
