use Rattle.std.proofs.Common.{subst, sym, MatchResult}
use Rattle.asn1_schema_laws.specs.Records.{ends}
use Rattle.per_codec_encoder.specs.Holding.{AreSound, Does, Cannot}
use Rattle.per_codec_rules.specs.Variants.{is_aligned}
use Rattle.per_codec_encoder.proofs.ends.end_scope.Goals as goal

pub end_taken-requires : goal.end_taken-requires
end_taken-requires c = subst (λ l. AreSound l c.args.output.now) (sym (c.end_complete.ensures.same c.if-end_complete.false)) c.requires

pub returns : goal.returns
returns c = subst (λ l. MatchResult c.end_taken.result (λ _.
    Does (is_aligned c.args.variant) ends l c.args.output.now c.end_taken.new.frames c.end_taken.new.output)
    (Cannot (is_aligned c.args.variant) ends l c.args.output.now)) (c.end_complete.ensures.same c.if-end_complete.false) c.end_taken.ensures
