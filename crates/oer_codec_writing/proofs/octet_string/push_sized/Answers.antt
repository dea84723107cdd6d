use Rattle.oer_codec_writing.proofs.LengthTexts.{all_octets}
use Rattle.oer_codec_writing.proofs.ScalarTexts.{adds_octets, adds_counted_octets, adds_sized, adds_unsized}
use Rattle.asn1_values_bits.proofs.Refused.{though_refused}
use Rattle.asn1_values_identifiers.proofs.Begins.{begins_same}
use Rattle.oer_codec_writing.proofs.octet_string.push_sized.Goals as goal

pub returns-then-fixed-clause-text : goal.returns-then-fixed-clause-text
returns-then-fixed-clause-text c = adds_sized c.args.fixed c.args.contents.now c.args.octets.now.items c.extend_from_slice.new.self.items
    c.if-fixed.true (adds_octets c.args.contents.now c.args.octets.now.items c.extend_from_slice.new.self.items
    (all_octets c.args.contents.now c.type_inv.contents) c.in_ok-extend_from_slice.ensures.items)

pub returns-clause-text : goal.returns-clause-text
returns-clause-text c = adds_unsized c.args.fixed c.args.contents.now c.args.octets.now.items c.push_counted.new.octets.items c.if-fixed.false
    (adds_counted_octets c.args.contents.now c.args.octets.now.items c.push_counted.new.octets.items c.in_ok-push_counted.ensures.text)

pub returns-in_err-extend_from_slice-clause-kept : goal.returns-in_err-extend_from_slice-clause-kept
returns-in_err-extend_from_slice-clause-kept c = though_refused _ (begins_same _ _ c.in_err-extend_from_slice.ensures.items)

pub returns-in_err-push_counted-clause-kept : goal.returns-in_err-push_counted-clause-kept
returns-in_err-push_counted-clause-kept c = though_refused _ c.in_err-push_counted.ensures.kept
