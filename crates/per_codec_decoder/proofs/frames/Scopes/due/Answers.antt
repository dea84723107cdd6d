use Rattle.std.proofs.Common.{◌-◌, ◌^◌, min, ap, sym, ◌∙◌}
use Rattle.per_codec_longer_laws.specs.Few.{due}
use Rattle.per_codec_decoder.specs.Scopes.{Open}
use Rattle.per_codec_decoder.proofs.Owing.{inner_due}
use Rattle.per_codec_decoder.proofs.frames.Scopes.due.Goals as goal

pub returns : goal.returns
returns c =
    let s = c.self.inside in
    c.frames_due.ensures ∙ ap (λ n. min n (2 ^ 64 - 1)) (sym (inner_due s.enclosing s.frames) ∙ ap (λ (o : Open). due o.scopes) c.self.view_is)
