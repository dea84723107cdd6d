use Rattle.std.proofs.Common.{◌≡◌, ◌+◌, ◌/◌, ◌%◌, arith}
use Rattle.oer_codec_writing.proofs.BitTexts.{adds_heading}
use Rattle.asn1_values_bits.proofs.Refused.{though_refused}
use Rattle.asn1_values_identifiers.proofs.Begins.{begins_same}
use Rattle.oer_codec_writing.proofs.Fronts.{begins_behind_text}
use Rattle.oer_codec_writing.proofs.bit_string.push_bits_heading.Goals as goal

pub returns-clause-text : goal.returns-clause-text
returns-clause-text c =
    let count = c.args.count in
    let octets : count / 8 + (count % 8 + 7) / 8 + 1 ≡ (count + 7) / 8 + 1 = omega arith in
    adds_heading count c.args.octets.now.items c.push_length.new.octets.items c.push.new.self.items (count / 8 + (count % 8 + 7) / 8 + 1)
    c.unused_bits.result octets c.unused_bits.ensures c.in_ok-push_length.ensures.text c.in_ok-push.ensures.items

pub returns-in_err-push_length-clause-kept : goal.returns-in_err-push_length-clause-kept
returns-in_err-push_length-clause-kept c = though_refused _ c.in_err-push_length.ensures.kept

pub returns-in_err-push-clause-kept : goal.returns-in_err-push-clause-kept
returns-in_err-push-clause-kept c =
    though_refused _ (begins_behind_text _ c.args.octets.now.items c.push_length.new.octets.items _ c.in_ok-push_length.ensures.text (begins_same _ _ c.in_err-push.ensures.items))
