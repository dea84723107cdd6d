use Rattle.std.proofs.Common.{rules}
use Rattle.asn1_schema_laws.proofs.Joined.{raised}
use Rattle.asn1_schema_authored.proofs.Writing.{writes_enclosed, cannot_enclosed, cannot_enclosed_here, cannot_enclosed_end}
use Rattle.asn1_schema_encode.proofs.Going.{passed}
use Rattle.asn1_schema_authored.proofs.Going.{failed_before_group}
use Rattle.asn1_schema_authored.proofs.encode.EncodeExtension.encode_present_group.Goals as goal

pub returns-in_err-encode_addition-clause-only : goal.returns-in_err-encode_addition-clause-only
returns-in_err-encode_addition-clause-only g c = raised _ _ _ c.from_residual.ensures.1 (cannot_enclosed_here c.in_err-encode_addition.ensures.only)

pub returns-in_err-encode_group-clause-only : goal.returns-in_err-encode_group-clause-only
returns-in_err-encode_group-clause-only g c = let one = g.met.Self.Encoder.one_after in
    raised _ _ _ c.from_residual-in_err-encode_group.ensures.1 (cannot_enclosed one c.in_ok-encode_addition.ensures.ok c.in_err-encode_group.ensures.only)

pub returns-in_err-end_addition-clause-only : goal.returns-in_err-end_addition-clause-only
returns-in_err-end_addition-clause-only g c = let one = g.met.Self.Encoder.one_after in
    raised _ _ _ c.from_residual-in_err-end_addition.ensures.1 (cannot_enclosed_end one c.in_ok-encode_addition.ensures.ok c.in_ok-encode_group.ensures.ok c.in_err-end_addition.ensures.only)

pub returns-clause-ok : goal.returns-clause-ok
returns-clause-ok g c = writes_enclosed c.in_ok-encode_addition.ensures.ok c.in_ok-encode_group.ensures.ok c.in_ok-end_addition.ensures.ok

pub returns-in_err-end_addition-clause-call : goal.returns-in_err-end_addition-clause-call
returns-in_err-end_addition-clause-call g c =
    record {
      failed = search rules;
      front = search rules;
      already = search rules;
      after = let law = g.met.Self.Encoder.goes_on in
          passed c.from_residual-in_err-end_addition.ensures.1
          (λ e. absurd (law _ _ _ c.in_ok-encode_addition.ensures.ok (failed_before_group law _ (g.G.Group.each _) c.in_ok-encode_group.ensures.ok (c.in_err-end_addition.ensures.call.after e))));
    }
