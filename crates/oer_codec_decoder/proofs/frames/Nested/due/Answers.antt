use Rattle.std.proofs.Common.{◌-◌, ◌^◌, min, ap, sym, ◌∙◌}
use Rattle.oer_codec_longer_laws.specs.Few.{due}
use Rattle.oer_codec_decoder.proofs.Owing.{inner_due}
use Rattle.oer_codec_decoder.proofs.frames.Nested.due.Goals as goal

pub returns : goal.returns
returns c =
    let s = c.self.inside in
    c.all_frames_due.ensures ∙ ap (λ n. min n (2 ^ 64 - 1)) (sym (inner_due s.enclosing s.frames) ∙ ap (λ k. due k) c.self.view_is)
