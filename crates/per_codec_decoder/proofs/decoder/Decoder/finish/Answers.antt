use Rattle.std.proofs.Common.{◌∙◌, ap, refl, subst, sym}
use Rattle.std.specs.Prelude.{OnOk}
use Rattle.per_codec_laws.specs.Takes.{Front, completion}
use Rattle.per_codec_reading.specs.Fronts.{freedoms}
use Rattle.per_codec_held_laws.specs.Held.{Held}
use Rattle.per_codec_decoder.proofs.Settling.{finished, finished_there, unless, unfinished_at, now_ready}
use Rattle.per_codec_decoder.proofs.decoder.Decoder.finish.Goals as goal

pub returns-clause-ok : goal.returns-clause-ok
returns-clause-ok c = finished c.read_completion-answer.result c.settle.result _ c.args.self.now _ c.cursor-cursor.result
    c.read_completion-answer.new.cursor c.position-position.result refl
    (now_ready _ _ c.self.view_is (sym c.is_some.ensures ∙ c.in_ok-go_on.ensures.ok)) (c.cursor-cursor.ensures ∙
    ap (λ (h : Held). h.place) c.self.view_is) c.position-position.ensures c.settle.ensures.same
    (subst (λ (h : Held). OnOk c.read_completion-answer.result (Front (freedoms h.rules) (completion c.cursor-cursor.result.0) c.cursor-cursor.result
    c.read_completion-answer.new.cursor)) c.self.view_is c.read_completion-answer.ensures.ok) c.settle.ensures.moved

pub returns-clause-rest : goal.returns-clause-rest
returns-clause-rest c = finished_there c.read_completion-answer.result c.settle.result _ c.args.self.now _ c.cursor-cursor.result
    c.read_completion-answer.new.cursor c.position-position.result refl (c.cursor-cursor.ensures ∙ ap (λ (h : Held). h.place) c.self.view_is)
    c.position-position.ensures c.settle.ensures.same
    (subst (λ (h : Held). OnOk c.read_completion-answer.result (Front (freedoms h.rules) (completion c.cursor-cursor.result.0) c.cursor-cursor.result
    c.read_completion-answer.new.cursor)) c.self.view_is c.read_completion-answer.ensures.ok) c.settle.ensures.moved

pub returns-clause-only : goal.returns-clause-only
returns-clause-only c = unless c.read_completion-answer.result c.settle.result _ _ c.settle.ensures.same c.read_completion-answer.ensures.only
    (λ e none ready b. unfinished_at _ _ c.cursor-cursor.result c.self.view_is c.cursor-cursor.ensures none ready b)
