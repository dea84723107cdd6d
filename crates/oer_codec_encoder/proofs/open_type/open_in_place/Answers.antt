use Rattle.oer_codec_encoder.proofs.EarlierOctets.{begins_added}
use Rattle.asn1_values_bits.proofs.Refused.{though_refused}
use Rattle.asn1_values_identifiers.proofs.Begins.{begins_same}
use Rattle.oer_codec_encoder.proofs.open_type.open_in_place.Goals as goal

pub returns-in_err-push-clause-kept : goal.returns-in_err-push-clause-kept
returns-in_err-push-clause-kept c = though_refused _ (begins_same _ _ c.in_err-push.ensures.items)

pub returns-in_err-open_small-clause-kept : goal.returns-in_err-open_small-clause-kept
returns-in_err-open_small-clause-kept c = though_refused _ (begins_added _ _ _ c.in_ok-push.ensures.items)
