use Rattle.asn1_values_bits.proofs.Refused.{though_refused}
use Rattle.asn1_values_identifiers.proofs.Begins.{begins_behind, begins_same}
use Rattle.oer_codec_writing.proofs.character_string.push_wide.Goals as goal

pub returns-in_err-push-clause-kept : goal.returns-in_err-push-clause-kept
returns-in_err-push-clause-kept g c = though_refused _ (begins_behind _ _ _ _ c.loop-place.invariant.added (begins_same _ _ c.in_err-push.ensures.items))

pub returns-in_err-push-2-clause-kept : goal.returns-in_err-push-2-clause-kept
returns-in_err-push-2-clause-kept g c =
    though_refused _ (begins_behind _ _ _ _ c.loop-place.invariant.added (begins_behind _ _ _ _ c.in_ok-push.ensures.items (begins_same _ _ c.in_err-push-2.ensures.items)))
