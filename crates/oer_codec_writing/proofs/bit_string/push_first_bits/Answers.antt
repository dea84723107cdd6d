use Rattle.std.proofs.Common.{refl, arith}
use Rattle.asn1_values_bits.proofs.Refused.{though_refused}
use Rattle.asn1_values_identifiers.proofs.Begins.{begins_behind, begins_same}
use Rattle.oer_codec_writing.proofs.BitTexts.{whole_first_added, first_added}
use Rattle.oer_codec_writing.proofs.bit_string.push_first_bits.Goals as goal

pub returns-in_err-extend_from_slice-clause-kept : goal.returns-in_err-extend_from_slice-clause-kept
returns-in_err-extend_from_slice-clause-kept c = though_refused _ (begins_same _ _ c.in_err-extend_from_slice.ensures.items)

pub returns-in_err-push-clause-kept : goal.returns-in_err-push-clause-kept
returns-in_err-push-clause-kept c = though_refused _ (begins_behind _ _ _ _ c.in_ok-extend_from_slice.ensures.items (begins_same _ _ c.in_err-push.ensures.items))

pub returns-then-few-eq0-clause-text : goal.returns-then-few-eq0-clause-text
returns-then-few-eq0-clause-text c = whole_first_added c.args.octets.now.items c.extend_from_slice.new.self.items c.args.held.now c.args.count
    (λ i. (c.type_inv.held i).fits) c.requires c.if-few-eq0.true c.in_ok-extend_from_slice.ensures.items

pub returns-clause-text : goal.returns-clause-text
returns-clause-text c =
    first_added c.args.octets.now.items c.extend_from_slice.new.self.items c.push.new.self.items c.args.held.now c.args.count _
    (λ i. (c.type_inv.held i).fits) c.requires (omega (arith, c.if-few-eq0.false)) refl c.in_ok-extend_from_slice.ensures.items c.in_ok-push.ensures.items
