use Rattle.std.proofs.Common.{◌≤◌, ◌++◌, of_z, to_z-of_z, ap, subst, sym, ◌∙◌, arith}
use Rattle.std.specs.Int.{w128}
use Rattle.asn1_model.specs.Form.{written}
use Rattle.asn1_model.specs.Numbers.{digits, signed_octets}
use Rattle.asn1_model.specs.Oer
use Rattle.oer_codec_writing.specs.Writing.{Adds}
use Rattle.oer_codec_writing.proofs.IntegerTexts.{at_some, adds_fixed_signed, adds_fewest_signed}
use Rattle.asn1_values_bits.proofs.Refused.{though_refused}
use Rattle.oer_codec_writing.proofs.integer.push_signed.Goals as goal

pub push_digits-requires : goal.push_digits-requires
push_digits-requires c = let fits = at_some c.args.width (λ k. (signed_octets c.args.number ≤ k) × (k ≤ 16)) c.in-Some.width c.in-Some.is c.requires in omega (arith, fits.1, c.from.ensures)

pub returns-in_ok-push_digits-in-Some-clause-text : goal.returns-in_ok-push_digits-in-Some-clause-text
returns-in_ok-push_digits-in-Some-clause-text c =
    let v = c.args.number in
    let old = c.args.octets.now.items in
    let new = c.push_digits.new.octets.items in
    let fits = at_some c.args.width (λ k. (signed_octets v ≤ k) × (k ≤ 16)) c.in-Some.width c.in-Some.is c.requires in
    subst (λ o. Adds (written (Oer.signed_form o v) 0) old new) (sym c.in-Some.is)
    (adds_fixed_signed c.in-Some.width v old new fits.1 fits.0 (c.in_ok-push_digits-in-Some.ensures.text ∙
    ap (λ k. old ++ digits 256 k c.cast_unsigned-bits.result) c.from.ensures ∙
    ap (λ b. old ++ digits 256 c.in-Some.width b) (c.cast_unsigned-bits.ensures ∙ ap (of_z w128) (to_z-of_z c.ranges.number))))

pub returns-in_ok-push_counted_digits-in-None-clause-text : goal.returns-in_ok-push_counted_digits-in-None-clause-text
returns-in_ok-push_counted_digits-in-None-clause-text c =
    let v = c.args.number in
    let old = c.args.octets.now.items in
    let new = c.push_counted_digits.new.octets.items in
    subst (λ o. Adds (written (Oer.signed_form o v) 0) old new) (sym c.in-None.is)
    (adds_fewest_signed c.signed_len.result v old new (c.signed_len.ensures.octets ∙ ap signed_octets (to_z-of_z c.ranges.number)) c.signed_len.ensures.most
    (subst (λ b. Adds (written (Oer.counted (digits 256 c.signed_len.result b)) 0) old new) (c.cast_unsigned-bits.ensures ∙
    ap (of_z w128) (to_z-of_z c.ranges.number)) c.in_ok-push_counted_digits-in-None.ensures.text))

pub returns-in_err-push_digits-in-Some-clause-kept : goal.returns-in_err-push_digits-in-Some-clause-kept
returns-in_err-push_digits-in-Some-clause-kept c = though_refused _ c.in_err-push_digits-in-Some.ensures.kept

pub returns-in_err-push_counted_digits-in-None-clause-kept : goal.returns-in_err-push_counted_digits-in-None-clause-kept
returns-in_err-push_counted_digits-in-None-clause-kept c = though_refused _ c.in_err-push_counted_digits-in-None.ensures.kept
