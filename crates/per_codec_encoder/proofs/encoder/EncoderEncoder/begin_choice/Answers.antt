use Rattle.std.proofs.Common.{rules}
use Rattle.std.proofs.Common.{map}
use Rattle.std.proofs.lemmas.List.{length-map}
use Rattle.asn1_schema_tags.specs.Tags.{tag_of}
use Rattle.asn1_schema_laws.proofs.Joined.{raised}
use Rattle.asn1_schema_laws.specs.Records.{choice_begins}
use Rattle.per_codec_encoder.proofs.Stepped.{stays_sound, puts, is_refused, never_after}
use Rattle.per_codec_rules.specs.Variants.{is_aligned}
use Rattle.per_codec_encoder.proofs.encoder.EncoderEncoder.begin_choice.Goals as goal

pub invariant_of-self-2 : goal.invariant_of-self-2
invariant_of-self-2 c _ = stays_sound (is_aligned c.self.inside.variant)
    (choice_begins (map tag_of c.args.roots.now) c.args.extensible (map tag_of c.args.additions.now) c.args.chosen.added c.args.chosen.place)
    c.self.inside.frames c.begin_alternative.new.frames c.self.inside.output c.begin_alternative.new.output
    (c.self.invariant c.in_ok-begin_record.ensures.ok) (c.in_ok-begin_alternative.ensures (map tag_of c.args.roots.now) (map tag_of c.args.additions.now) (length-map c.args.roots.now tag_of))

pub returns-clause-ok : goal.returns-clause-ok
returns-clause-ok c = puts (is_aligned c.self.inside.variant)
    (choice_begins (map tag_of c.args.roots.now) c.args.extensible (map tag_of c.args.additions.now) c.args.chosen.added c.args.chosen.place)
    c.self.inside.frames c.begin_alternative.new.frames c.self.inside.output c.begin_alternative.new.output c.self.inside.failed c.args.self.now
    c.self.view_is c.in_ok-begin_record.ensures.ok (c.self.invariant c.in_ok-begin_record.ensures.ok)
    (c.in_ok-begin_alternative.ensures (map tag_of c.args.roots.now) (map tag_of c.args.additions.now) (length-map c.args.roots.now tag_of))

pub returns-in_err-begin_alternative-clause-only : goal.returns-in_err-begin_alternative-clause-only
returns-in_err-begin_alternative-clause-only c = raised _ _ _ c.from_residual-in_err-begin_alternative.ensures.1
    (is_refused (is_aligned c.self.inside.variant) (choice_begins (map tag_of c.args.roots.now) c.args.extensible (map tag_of c.args.additions.now)
    c.args.chosen.added c.args.chosen.place) c.self.inside.frames c.self.inside.output c.self.inside.failed c.args.self.now _ c.self.view_is
    (c.self.invariant c.in_ok-begin_record.ensures.ok) (c.in_err-begin_alternative.ensures (map tag_of c.args.roots.now) (map tag_of c.args.additions.now) (length-map c.args.roots.now tag_of)))

pub returns-in_err-begin_alternative-clause-call : goal.returns-in_err-begin_alternative-clause-call
returns-in_err-begin_alternative-clause-call c =
    record {
      failed = search rules;
      front = search rules;
      already = search rules;
      after =
          never_after (is_aligned c.self.inside.variant) (choice_begins (map tag_of c.args.roots.now) c.args.extensible
          (map tag_of c.args.additions.now) c.args.chosen.added c.args.chosen.place) c.self.inside.frames c.self.inside.output _
          c.from_residual-in_err-begin_alternative.result c.from_residual-in_err-begin_alternative.ensures.1
          (c.in_err-begin_alternative.ensures (map tag_of c.args.roots.now) (map tag_of c.args.additions.now) (length-map c.args.roots.now tag_of));
    }
