use Rattle.std.proofs.Common.{rules}
use Rattle.std.proofs.Common.{subst}
use Rattle.asn1_schema_constraints.specs.Bounds.{members_of}
use Rattle.asn1_schema_constraints.specs.Terms.{sizes_of, size_of}
use Rattle.asn1_schema_laws.proofs.Joined.{raised}
use Rattle.asn1_schema_laws.specs.Records.{bag_begins}
use Rattle.per_codec_encoder.specs.Holding.{Does, Cannot}
use Rattle.per_codec_encoder.proofs.Stepped.{stays_sound, puts, is_refused, never_after}
use Rattle.per_codec_rules.specs.Variants.{is_aligned}
use Rattle.per_codec_encoder.proofs.encoder.EncoderEncoder.begin_bag.Goals as goal

pub invariant_of-self-2 : goal.invariant_of-self-2
invariant_of-self-2 c _ =
    let does = subst (λ z. Does (is_aligned c.self.inside.variant) (bag_begins z (members_of c.args.held) c.args.count) c.self.inside.frames
    c.self.inside.output c.begin_bag.new.frames c.begin_bag.new.output) c.sizes.ensures (c.in_ok-begin_bag.ensures (is_aligned c.self.inside.variant)) in
    stays_sound (is_aligned c.self.inside.variant) _ c.self.inside.frames c.begin_bag.new.frames c.self.inside.output c.begin_bag.new.output (c.self.invariant c.in_ok-begin_record.ensures.ok) does

pub returns-clause-ok : goal.returns-clause-ok
returns-clause-ok c =
    let does = subst (λ z. Does (is_aligned c.self.inside.variant) (bag_begins z (members_of c.args.held) c.args.count) c.self.inside.frames
    c.self.inside.output c.begin_bag.new.frames c.begin_bag.new.output) c.sizes.ensures (c.in_ok-begin_bag.ensures (is_aligned c.self.inside.variant)) in
    puts (is_aligned c.self.inside.variant) _ c.self.inside.frames c.begin_bag.new.frames c.self.inside.output c.begin_bag.new.output
    c.self.inside.failed c.args.self.now c.self.view_is c.in_ok-begin_record.ensures.ok (c.self.invariant c.in_ok-begin_record.ensures.ok) does

pub returns-in_err-begin_bag-clause-only : goal.returns-in_err-begin_bag-clause-only
returns-in_err-begin_bag-clause-only c =
    let cannot = subst (λ z. Cannot (is_aligned c.self.inside.variant) (bag_begins z (members_of c.args.held) c.args.count) c.self.inside.frames
    c.self.inside.output c.in_err-begin_bag.field-0.0) c.sizes.ensures (c.in_err-begin_bag.ensures (is_aligned c.self.inside.variant)) in
    raised _ _ _ c.from_residual-in_err-begin_bag.ensures.1 (is_refused (is_aligned c.self.inside.variant)
    (bag_begins (sizes_of c.args.constraints.now.size) (members_of c.args.held) c.args.count) c.self.inside.frames c.self.inside.output
    c.self.inside.failed c.args.self.now _ c.self.view_is (c.self.invariant c.in_ok-begin_record.ensures.ok) cannot)

pub returns-in_err-begin_bag-clause-call : goal.returns-in_err-begin_bag-clause-call
returns-in_err-begin_bag-clause-call c =
    record {
      failed = search rules;
      front = search rules;
      already = search rules;
      after =
          never_after (is_aligned c.self.inside.variant) (bag_begins (size_of c.sizes.result) (members_of c.args.held) c.args.count)
          c.self.inside.frames c.self.inside.output _ c.from_residual-in_err-begin_bag.result c.from_residual-in_err-begin_bag.ensures.1
          (c.in_err-begin_bag.ensures (is_aligned c.self.inside.variant));
    }
