use Rattle.per_codec_alphabets.proofs.OneRun.{single_kept}
use Rattle.per_codec_alphabets.proofs.single.single_run.Goals as goal

pub returns-then-has_run : goal.returns-then-has_run
returns-then-has_run g c = single_kept g.S.StaticPermittedAlphabet.kind c.in_ok-run.run' c.args.characters.now c.in_ok-run.ensures.some c.in_ok-run.ensures.each (c.has_run.ensures c.if-has_run.true)
