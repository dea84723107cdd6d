use Rattle.std.proofs.Common.{◌∙◌, ap, subst, refl, sym}
use Rattle.asn1_schema_laws.proofs.Joined.{raised}
use Rattle.asn1_schema_constraints.specs.Bounds.{members_of}
use Rattle.asn1_schema_constraints.specs.Terms.{size_of}
use Rattle.per_codec_reading.specs.Fronts.{freedoms, is_aligned}
use Rattle.per_codec_held_laws.specs.Held.{Held}
use Rattle.per_codec_decoder.specs.Members.{Due, HasMembers}
use Rattle.per_codec_decoder.proofs.Settling.{members_settle, ok_of, not_ready, now_ready}
use Rattle.per_codec_decoder.proofs.decoder.Decoder.enter_members.Goals as goal

pub returns-in_err-go_on-clause-only : goal.returns-in_err-go_on-clause-only
returns-in_err-go_on-clause-only c = raised _ _ _ c.from_residual.ensures.1 (λ ready l. absurd (not_ready _ _ c.self.view_is (sym c.is_some.ensures ∙ c.in_err-go_on.ensures.only.1) ready))

pub returns-clause-ok : goal.returns-clause-ok
returns-clause-ok c = members_settle c.enter.result _ c.args.self.now c.settle.new.self c.enter.new.self (size_of c.args.sizes)
    (members_of c.args.held) c.in_ok-members.members.due c.in_ok-members.members.tally c.cursor-cursor.result c.read_members-answer.new.cursor
    c.position-position.result refl (now_ready _ _ c.self.view_is (sym c.is_some.ensures ∙ c.in_ok-go_on.ensures.ok))
    (c.cursor-cursor.ensures ∙ ap (λ (h : Held). h.place) c.self.view_is) c.position-position.ensures
    (subst (λ (h : Held). HasMembers (is_aligned h.rules) (freedoms h.rules) (size_of c.args.sizes) (members_of c.args.held)
    c.in_ok-members.members.due c.in_ok-members.members.tally c.cursor-cursor.result c.read_members-answer.new.cursor) c.self.view_is
    (ok_of (λ (p : Due). HasMembers (is_aligned c.self.inside.rules) (freedoms c.self.inside.rules) (size_of c.args.sizes) (members_of c.args.held)
    p.due p.tally c.cursor-cursor.result c.read_members-answer.new.cursor) c.read_members-answer.result c.in_ok-members.members
    c.in_ok-members.ensures.same c.read_members-answer.ensures.ok)) c.in_ok-members.ensures.moved c.enter.ensures.levels c.enter.ensures.scopes
