use Rattle.std.proofs.Common.{arith}
use Rattle.oer_codec_writing.proofs.DigitTexts.{adds_counted_digits}
use Rattle.oer_codec_writing.proofs.LengthTexts.{short_added}
use Rattle.asn1_values_bits.proofs.Refused.{though_refused}
use Rattle.oer_codec_writing.proofs.Fronts.{begins_behind_text}
use Rattle.oer_codec_writing.proofs.length.push_counted_digits.Goals as goal

pub returns-clause-text : goal.returns-clause-text
returns-clause-text c = adds_counted_digits c.args.count c.args.number c.args.octets.now.items c.push_length.new.octets.items
    c.push_digits.new.octets.items c.requires (short_added c.args.count c.args.octets.now.items c.push_length.new.octets.items
    (omega (arith, c.requires)) c.in_ok-push_length.ensures.text) c.in_ok-push_digits.ensures.text

pub returns-in_err-push_length-clause-kept : goal.returns-in_err-push_length-clause-kept
returns-in_err-push_length-clause-kept c = though_refused _ c.in_err-push_length.ensures.kept

pub returns-in_err-push_digits-clause-kept : goal.returns-in_err-push_digits-clause-kept
returns-in_err-push_digits-clause-kept c =
    though_refused _ (begins_behind_text _ c.args.octets.now.items c.push_length.new.octets.items _ c.in_ok-push_length.ensures.text c.in_err-push_digits.ensures.kept)
