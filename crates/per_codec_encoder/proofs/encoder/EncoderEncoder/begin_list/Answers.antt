use Rattle.std.proofs.Common.{subst}
use Rattle.asn1_schema_constraints.specs.Bounds.{members_of}
use Rattle.asn1_schema_constraints.specs.Terms.{sizes_of}
use Rattle.asn1_schema_laws.proofs.Joined.{raised}
use Rattle.asn1_schema_laws.specs.Records.{list_begins}
use Rattle.per_codec_encoder.specs.Holding.{Does, Cannot}
use Rattle.per_codec_encoder.proofs.Stepped.{stays_sound, puts, is_refused}
use Rattle.per_codec_rules.specs.Variants.{is_aligned}
use Rattle.per_codec_encoder.proofs.encoder.EncoderEncoder.begin_list.Goals as goal

pub invariant_of-self-2 : goal.invariant_of-self-2
invariant_of-self-2 c _ =
    let does = subst (λ z. Does (is_aligned c.self.inside.variant) (list_begins z (members_of c.args.held) c.args.count) c.self.inside.frames
    c.self.inside.output c.begin_members.new.frames c.begin_members.new.output) c.sizes.ensures (c.in_ok-begin_members.ensures) in
    stays_sound (is_aligned c.self.inside.variant) _ c.self.inside.frames c.begin_members.new.frames c.self.inside.output c.begin_members.new.output
    (c.self.invariant c.in_ok-begin_record.ensures.ok) does

pub returns-clause-ok : goal.returns-clause-ok
returns-clause-ok c =
    let does = subst (λ z. Does (is_aligned c.self.inside.variant) (list_begins z (members_of c.args.held) c.args.count) c.self.inside.frames
    c.self.inside.output c.begin_members.new.frames c.begin_members.new.output) c.sizes.ensures (c.in_ok-begin_members.ensures) in
    puts (is_aligned c.self.inside.variant) _ c.self.inside.frames c.begin_members.new.frames c.self.inside.output c.begin_members.new.output
    c.self.inside.failed c.args.self.now c.self.view_is c.in_ok-begin_record.ensures.ok (c.self.invariant c.in_ok-begin_record.ensures.ok) does

pub returns-in_err-begin_members-clause-only : goal.returns-in_err-begin_members-clause-only
returns-in_err-begin_members-clause-only c =
    let cannot = subst (λ z. Cannot (is_aligned c.self.inside.variant) (list_begins z (members_of c.args.held) c.args.count) c.self.inside.frames
    c.self.inside.output c.in_err-begin_members.field-0.0) c.sizes.ensures (c.in_err-begin_members.ensures) in
    raised _ _ _ c.from_residual-in_err-begin_members.ensures.1 (is_refused (is_aligned c.self.inside.variant)
    (list_begins (sizes_of c.args.constraints.now.size) (members_of c.args.held) c.args.count) c.self.inside.frames c.self.inside.output
    c.self.inside.failed c.args.self.now _ c.self.view_is (c.self.invariant c.in_ok-begin_record.ensures.ok) cannot)
