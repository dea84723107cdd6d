use Rattle.oer_codec_writing.proofs.ScalarTexts.{adds_truth}
use Rattle.asn1_values_bits.proofs.Refused.{though_refused}
use Rattle.asn1_values_identifiers.proofs.Begins.{begins_same}
use Rattle.oer_codec_writing.proofs.boolean.push_boolean.Goals as goal

pub returns-clause-text : goal.returns-clause-text
returns-clause-text c =
    adds_truth c.args.value c.truth_octet.result c.args.octets.now.items c.push.new.self.items c.truth_octet.ensures
    c.in_ok-push.ensures.items

pub returns-in_err-push-clause-kept : goal.returns-in_err-push-clause-kept
returns-in_err-push-clause-kept c = though_refused _ (begins_same _ _ c.in_err-push.ensures.items)
