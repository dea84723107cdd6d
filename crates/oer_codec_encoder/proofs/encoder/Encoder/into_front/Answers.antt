use Rattle.std.proofs.Common.{take, ap, ◌∙◌}
use Rattle.oer_codec_encoder.specs.Stepping.{Written}
use Rattle.oer_codec_encoder.proofs.encoder.Encoder.into_front.Goals as goal

pub returns : goal.returns
returns c =
    ap (λ v. v.items) c.replace.ensures.value ∙ c.truncate.ensures.items ∙ ap (take c.self.inside.start) c.bring_back.ensures.octets
    ∙ ap (λ (w : Written). w.front) c.self.view_is
