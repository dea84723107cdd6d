use Rattle.asn1_schema_laws.proofs.Joined.{raised}
use Rattle.asn1_schema_decode.proofs.PresenceBits.{reads_present, unread_optional_here, unread_optional}
use Rattle.asn1_schema_decode.proofs.components.DecodeSequence.decode_optional_with_tag_and_constraints.Goals as goal

pub returns-in_err-present-clause-only : goal.returns-in_err-present-clause-only
returns-in_err-present-clause-only g c = raised _ _ _ c.from_residual.ensures.1 (unread_optional_here c.in_err-present.ensures.only)

pub returns-then-not-present-clause-ok : goal.returns-then-not-present-clause-ok
returns-then-not-present-clause-ok g c = rw c.if-not-present.true at c.in_ok-present.ensures.ok

pub returns-in_err-value-clause-only : goal.returns-in_err-value-clause-only
returns-in_err-value-clause-only g c = let one = g.met.Self.Decoder.one_record in let carries =
    g.met.Self.Decoder.records_carried in let values = g.met.Self.Decoder.values_carried in
    raised _ _ _ c.from_residual-in_err-value.ensures.1
    (unread_optional one carries (rw c.if-not-present.false at c.in_ok-present.ensures.ok) (rw c.in_ok-present.ensures.call.level at c.in_err-value.ensures.only))

pub returns-clause-ok : goal.returns-clause-ok
returns-clause-ok g c = reads_present (rw c.if-not-present.false at c.in_ok-present.ensures.ok) (rw c.in_ok-present.ensures.call.level at c.in_ok-value.ensures.ok)
