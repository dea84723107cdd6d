use Rattle.std.proofs.Common.{◌+◌, ◌++◌, ◌∷◌, [], Some, ap, sym, ◌∙◌, append_assoc}
use Rattle.asn1_model.specs.Numbers.{digits}
use Rattle.oer_codec_writing.proofs.LengthTexts.{short_length, long_length, adds_text}
use Rattle.asn1_values_bits.proofs.Refused.{though_refused}
use Rattle.asn1_values_identifiers.proofs.Begins.{begins_behind, begins_same}
use Rattle.oer_codec_writing.proofs.length.push_length.Goals as goal

pub returns-in-Some-clause-text : goal.returns-in-Some-clause-text
returns-in-Some-clause-text c = adds_text _ _ c.args.octets.now.items c.push.new.self.items (short_length c.args.length c.in-Some.ensures.some.1)
    (c.in_ok-push.ensures.items ∙ ap (λ n. c.args.octets.now.items ++ n ∷ []) c.in-Some.ensures.some.0)

pub returns-clause-text : goal.returns-clause-text
returns-clause-text c =
    let w = c.octet_width-count.result in
    adds_text _ ((128 + w) ∷ digits 256 w c.args.length) c.args.octets.now.items c.push_digits.new.octets.items
    (long_length c.args.length c.in_default.ensures.none c.ranges.length.fits ∙ sym (ap (λ k. Some ((128 + k) ∷ digits 256 k c.args.length)) c.octet_width-count.ensures.width))
    (c.in_ok-push_digits.ensures.text ∙ ap (λ l. l ++ digits 256 w c.args.length) c.in_ok-push-2.ensures.items ∙ append_assoc c.args.octets.now.items ((128 + w) ∷ []) (digits 256 w c.args.length))

pub returns-in_err-push-clause-kept : goal.returns-in_err-push-clause-kept
returns-in_err-push-clause-kept c = though_refused _ (begins_same _ _ c.in_err-push.ensures.items)

pub returns-in_err-push-2-clause-kept : goal.returns-in_err-push-2-clause-kept
returns-in_err-push-2-clause-kept c = though_refused _ (begins_same _ _ c.in_err-push-2.ensures.items)

pub returns-in_err-push_digits-clause-kept : goal.returns-in_err-push_digits-clause-kept
returns-in_err-push_digits-clause-kept c = though_refused _ (begins_behind _ _ _ _ c.in_ok-push-2.ensures.items c.in_err-push_digits.ensures.kept)
