use Rattle.std.proofs.Common.{refl, ◌∙◌, arith}
use Rattle.asn1_schema_laws.proofs.Joined.{raised}
use Rattle.asn1_schema_encode.proofs.Listing.{from_start, from_next, from_further, from_stuck, from_end, from_no_end}
use Rattle.asn1_schema_encode.proofs.Going.{passed, failed_before_value}
use Rattle.asn1_schema_encode.proofs.lists.encode_members.Goals as goal

pub loop-item-init : goal.loop-item-init
loop-item-init g c = (from_start _, λ f. f, refl)

pub returns-in_err-encode_further-clause-only : goal.returns-in_err-encode_further-clause-only
returns-in_err-encode_further-clause-only g c = raised _ _ _ c.from_residual.ensures.1
    (from_further (omega arith) c.item-item.is c.loop-item.invariant.0 c.in_err-encode_further.ensures.only)

pub returns-in_err-encode-clause-only : goal.returns-in_err-encode-clause-only
returns-in_err-encode-clause-only g c = raised _ _ _ c.from_residual-in_err-encode.ensures.1
    (from_stuck g.met.E.Encoder.one_after (omega arith) c.item-item.is c.loop-item.invariant.0 c.in_ok-encode_further.ensures.ok c.in_err-encode.ensures.only)

pub loop-item-preserved : goal.loop-item-preserved
loop-item-preserved g c =
    let one = g.met.E.Encoder.one_after in
    let law = g.met.E.Encoder.goes_on in (
      from_next one (omega arith) c.item-item.is c.loop-item.invariant.0 c.in_ok-encode_further.ensures.ok c.in_ok-encode.ensures.ok,
      λ f. absurd (law _ _ _ c.in_ok-encode_further.ensures.ok (failed_before_value law (g.T.Described.valued _) c.in_ok-encode.ensures.ok f)),
      c.in_ok-encode.ensures.call.front ∙ c.in_ok-encode_further.ensures.call.front ∙ c.loop-item.invariant.2,
    )

pub returns-clause-ok : goal.returns-clause-ok
returns-clause-ok g c = from_end (omega arith) c.loop-item.invariant.0 c.in_ok-end_members.ensures.ok

pub returns-in_err-end_members-clause-only : goal.returns-in_err-end_members-clause-only
returns-in_err-end_members-clause-only g c = raised _ _ _ c.from_residual-in_err-end_members.ensures.1
    (from_no_end (omega arith) c.loop-item.invariant.0 c.in_err-end_members.ensures.only)

pub returns-in_err-encode_further-clause-after : goal.returns-in_err-encode_further-clause-after
returns-in_err-encode_further-clause-after g c =
    passed c.from_residual.ensures.1 (λ e. c.loop-item.invariant.1 (c.in_err-encode_further.ensures.call.after e))
