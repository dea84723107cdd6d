use Rattle.std.proofs.Common.{◌≡◌, ◌+◌, ◌-◌, ◌++◌, length, take, drop, ap, ◌∙◌, arith}
use Rattle.asn1_model.specs.Numbers.{digits}
use Rattle.asn1_values_natives.proofs.OctetLaws.{length-digits}
use Rattle.oer_codec_writing.proofs.DigitTexts.{bytes_are_digits, last_digits, take_all}
use Rattle.asn1_values_bits.proofs.Refused.{though_refused}
use Rattle.asn1_values_identifiers.proofs.Begins.{begins_same}
use Rattle.oer_codec_writing.proofs.digits.push_digits.Goals as goal

pub returns-in_ok-extend_from_slice-in_default-clause-text : goal.returns-in_ok-extend_from_slice-in_default-clause-text
returns-in_ok-extend_from_slice-in_default-clause-text c =
    let n = c.args.number in
    let k = c.args.count in
    let all : 16 ≡ (16 - k) + k = omega (arith, c.requires) in
    let last : drop (16 - k) c.to_be_bytes-in_default.result ≡ digits 256 k n =
    ap (drop (16 - k)) (c.to_be_bytes-in_default.ensures ∙ bytes_are_digits 16 n ∙ ap (λ j. digits 256 j n) all) ∙ last_digits (16 - k) k n in
    let few : 16 - (16 - k) ≡ length (digits 256 k n) = omega (arith, c.requires, length-digits k n) in
    c.in_ok-extend_from_slice-in_default.ensures.items ∙ ap (λ l. c.args.octets.now.items ++ take (16 - (16 - k)) l) last ∙
    ap (λ j. c.args.octets.now.items ++ take j (digits 256 k n)) few ∙ ap (λ l. c.args.octets.now.items ++ l) (take_all (digits 256 k n))

pub returns-in_err-push-in-1-clause-kept : goal.returns-in_err-push-in-1-clause-kept
returns-in_err-push-in-1-clause-kept c = though_refused _ (begins_same _ _ c.in_err-push-in-1.ensures.items)

pub returns-in_err-extend_from_slice-in-2-clause-kept : goal.returns-in_err-extend_from_slice-in-2-clause-kept
returns-in_err-extend_from_slice-in-2-clause-kept c = though_refused _ (begins_same _ _ c.in_err-extend_from_slice-in-2.ensures.items)

pub returns-in_err-extend_from_slice-in-4-clause-kept : goal.returns-in_err-extend_from_slice-in-4-clause-kept
returns-in_err-extend_from_slice-in-4-clause-kept c = though_refused _ (begins_same _ _ c.in_err-extend_from_slice-in-4.ensures.items)

pub returns-in_err-extend_from_slice-in-8-clause-kept : goal.returns-in_err-extend_from_slice-in-8-clause-kept
returns-in_err-extend_from_slice-in-8-clause-kept c = though_refused _ (begins_same _ _ c.in_err-extend_from_slice-in-8.ensures.items)

pub returns-in_err-extend_from_slice-in_default-clause-kept : goal.returns-in_err-extend_from_slice-in_default-clause-kept
returns-in_err-extend_from_slice-in_default-clause-kept c = though_refused _ (begins_same _ _ c.in_err-extend_from_slice-in_default.ensures.items)
