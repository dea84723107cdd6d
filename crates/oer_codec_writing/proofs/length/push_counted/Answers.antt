use Rattle.oer_codec_writing.proofs.LengthTexts.{all_octets, adds_counted}
use Rattle.asn1_values_bits.proofs.Refused.{though_refused}
use Rattle.asn1_values_identifiers.proofs.Begins.{begins_same}
use Rattle.oer_codec_writing.proofs.Fronts.{begins_behind_text}
use Rattle.oer_codec_writing.proofs.length.push_counted.Goals as goal

pub returns-clause-text : goal.returns-clause-text
returns-clause-text c = adds_counted c.args.contents.now c.args.octets.now.items c.push_length.new.octets.items c.extend_from_slice.new.self.items
    (all_octets c.args.contents.now c.type_inv.contents) c.in_ok-push_length.ensures.text c.in_ok-extend_from_slice.ensures.items

pub returns-in_err-push_length-clause-kept : goal.returns-in_err-push_length-clause-kept
returns-in_err-push_length-clause-kept c = though_refused _ c.in_err-push_length.ensures.kept

pub returns-in_err-extend_from_slice-clause-kept : goal.returns-in_err-extend_from_slice-clause-kept
returns-in_err-extend_from_slice-clause-kept c = though_refused _
    (begins_behind_text _ c.args.octets.now.items c.push_length.new.octets.items _ c.in_ok-push_length.ensures.text (begins_same _ _ c.in_err-extend_from_slice.ensures.items))
