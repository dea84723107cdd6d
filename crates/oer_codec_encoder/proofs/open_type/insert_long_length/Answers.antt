use Rattle.std.proofs.Common.{sym}
use Rattle.asn1_values_bits.proofs.Refused.{though_refused}
use Rattle.oer_codec_encoder.proofs.EarlierOctets.{begins_taken, rebased}
use Rattle.oer_codec_encoder.proofs.open_type.insert_long_length.Goals as goal

pub returns-in_err-contents-clause-kept : goal.returns-in_err-contents-clause-kept
returns-in_err-contents-clause-kept c = though_refused _ (begins_taken c.args.start c.args.octets.now.items)

pub returns-in_err-push_counted-clause-kept : goal.returns-in_err-push_counted-clause-kept
returns-in_err-push_counted-clause-kept c = though_refused _ (rebased _ _ _ (sym c.truncate.ensures.items) c.in_err-push_counted.ensures.kept)
