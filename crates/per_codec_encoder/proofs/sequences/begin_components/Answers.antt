use Rattle.std.proofs.Common.{arith}
use Rattle.per_codec_encoder.proofs.Opening.{does_begin}
use Rattle.per_codec_encoder.proofs.sequences.begin_components.Goals as goal

pub returns : goal.returns
returns c = does_begin c.args.frames.now c.open.new.self c.args.output.now c.resize.new.self c.args.extensible c.args.optional c.end_of-start.result
    c.in-Some.end c.end_of-start.ensures.bits c.end_of-start.ensures.all c.in-Some.ensures (omega arith) c.in_ok-resize.ensures.ok c.in_ok-open.ensures.items
