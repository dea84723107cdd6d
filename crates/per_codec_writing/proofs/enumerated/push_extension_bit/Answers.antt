use Rattle.per_codec_writing.proofs.IndexFieldLists.{no_extension_bit, adds_extension_bit}
use Rattle.per_codec_writing.proofs.enumerated.push_extension_bit.Goals as goal

pub returns-then-not-extensible : goal.returns-then-not-extensible
returns-then-not-extensible c = no_extension_bit c.args.extensible c.args.added c.args.output.now c.if-not-extensible.true

pub returns : goal.returns
returns c = adds_extension_bit c.args.extensible c.args.added c.args.output.now c.push.new.self c.if-not-extensible.false c.in_ok-push.ensures.ok
