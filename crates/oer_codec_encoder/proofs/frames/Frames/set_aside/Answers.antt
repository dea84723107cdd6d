use Rattle.std.proofs.Common.{◌≡◌, ap, sym, ◌∙◌}
use Rattle.oer_codec_encoder.specs.Frames.{frames_of}
use Rattle.oer_codec_encoder.proofs.frames.Frames.set_aside.Goals as goal

pub set_other_aside-requires : goal.set_other_aside-requires
set_other_aside-requires c =
    let others = c.self.inside.others in
    let same : others ≡ c.args.self.now = sym (ap (λ e. frames_of e others) c.in-None.is) ∙ c.self.view_is in
    (c.requires.0, c.requires.1, same ∙ c.requires.2)

pub returns-in-None : goal.returns-in-None
returns-in-None c b k e =
    let others = c.self.inside.others in
    let same : others ≡ c.args.self.now = sym (ap (λ e. frames_of e others) c.in-None.is) ∙ c.self.view_is in
    let r = c.set_other_aside.ensures b k (same ∙ e) in
    (r.0, ap (λ e. frames_of e c.set_other_aside.new.others) c.in-None.is ∙ r.1, r.2, r.3)
