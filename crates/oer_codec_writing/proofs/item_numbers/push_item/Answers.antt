use Rattle.std.proofs.Common.{◌≡◌, pos, false, ◌⊎◌, inl, inr, ◌∙◌, ◌++◌, ap, arith}
use Rattle.std.proofs.lemmas.Int.{to_z-of_z}
use Rattle.std.specs.Int.{w64}
use lib.Signed.{le_z, lt_z}
use mir.Val.{to_z, of_z}
use Rattle.oer_codec_writing.proofs.TagTexts.{short_item, long_item, number_octets, few_digits, is_long}
use Rattle.asn1_values_bits.proofs.Refused.{though_refused}
use Rattle.asn1_values_identifiers.proofs.Begins.{begins_behind, begins_same}
use Rattle.oer_codec_writing.proofs.item_numbers.push_item.Goals as goal
use Rattle.oer_codec_writing.proofs.item_numbers.push_item.Goals.{else-number-ge0-via-then-number-ge0+else-number-lt128, else-number-ge0-via-else-number-ge0}

pub returns-then-number-lt128-clause-text : goal.returns-then-number-lt128-clause-text
returns-then-number-lt128-clause-text c = short_item c.args.number _ c.args.octets.now.items c.push.new.self.items
    (to_z-of_z w64 c.args.number c.ranges.number) c.if-number-ge0.true c.if-number-lt128.true c.in_ok-push.ensures.items

pub overflow_cast-len : goal.overflow_cast-len
overflow_cast-len c =
    let few = few_digits c.args.number _ c.len.result c.to_signed_bytes_be-digits.result c.ranges.number.sfits
    (to_z-of_z w64 c.args.number c.ranges.number) c.to_signed_bytes_be-digits.ensures.octets c.len.ensures in
    omega (arith, few)

pub overflow_add-len : goal.overflow_add-len
overflow_add-len c =
    let few = few_digits c.args.number _ c.len.result c.to_signed_bytes_be-digits.result c.ranges.number.sfits
    (to_z-of_z w64 c.args.number c.ranges.number) c.to_signed_bytes_be-digits.ensures.octets c.len.ensures in
    omega (arith, few)

pub returns-clause-text : goal.returns-clause-text
returns-clause-text c =
    let same = to_z-of_z w64 c.args.number c.ranges.number in
    let x = to_z w64 (of_z w64 c.args.number) in
    let long : (le_z (pos 0) x ≡ false) ⊎ (lt_z x (pos 128) ≡ false) = elim c.else-number-ge0.branch [
      | else-number-ge0-via-then-number-ge0+else-number-lt128 w ↦ inr w.if-number-lt128.false
      | else-number-ge0-via-else-number-ge0 w ↦ inl w.if-number-ge0.false
    ] in
    long_item c.args.number c.len.result c.to_signed_bytes_be-digits.result c.args.octets.now.items c.push-2.new.self.items
    c.extend_from_slice.new.self.items c.ranges.number.sfits (is_long c.args.number _ same long)
    (number_octets c.args.number _ _ same c.to_signed_bytes_be-digits.ensures.octets) c.len.ensures c.in_ok-push-2.ensures.items
    (c.in_ok-extend_from_slice.ensures.items ∙ ap (λ l. c.push-2.new.self.items ++ l) c.as_slice.ensures)

pub returns-in_err-push-clause-kept : goal.returns-in_err-push-clause-kept
returns-in_err-push-clause-kept c = though_refused _ (begins_same _ _ c.in_err-push.ensures.items)

pub returns-in_err-push-2-clause-kept : goal.returns-in_err-push-2-clause-kept
returns-in_err-push-2-clause-kept c = though_refused _ (begins_same _ _ c.in_err-push-2.ensures.items)

pub returns-in_err-extend_from_slice-clause-kept : goal.returns-in_err-extend_from_slice-clause-kept
returns-in_err-extend_from_slice-clause-kept c = though_refused _ (begins_behind _ _ _ _ c.in_ok-push-2.ensures.items (begins_same _ _ c.in_err-extend_from_slice.ensures.items))
