use Rattle.std.proofs.Common.{◌∷◌, refl, arith}
use Rattle.per_codec_encoder.proofs.Ending.{does_end_components}
use Rattle.per_codec_encoder.proofs.ends.is_complete.Goals as goal

pub returns-else-due-gt0-clause-complete : goal.returns-else-due-gt0-clause-complete
returns-else-due-gt0-clause-complete c = λ e al fs o.
    let f = c.in-Components in
    does_end_components (c.args.frame.now ∷ fs) fs c.args.frame.now f.extensible f.due f.given f.start refl f.is c.if-extensible.false (omega (arith, c.if-due-gt0.false)) al o
