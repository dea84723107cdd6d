use Rattle.asn1_relay_command.proofs.LineLemmas.{begins_at_text, one_more_text}
use Rattle.std.proofs.Common.{arith}
use Rattle.asn1_relay_command.proofs.fault.write_parts.Goals as goal

pub returns-in_err-write_octets-clause-begins : goal.returns-in_err-write_octets-clause-begins
returns-in_err-write_octets-clause-begins g c =
    begins_at_text _ _ _ c.args.parts.now c.loop-part.part-index _ c.as_bytes.result.now (omega arith) c.as_bytes.ensures.value c.loop-part.invariant c.in_err-write_octets.ensures.begins

pub loop-part-preserved : goal.loop-part-preserved
loop-part-preserved g c =
    one_more_text _ _ _ c.args.parts.now c.loop-part.part-index _ c.as_bytes.result.now (omega arith) c.as_bytes.ensures.value c.loop-part.invariant c.in_ok-write_octets.ensures.all
