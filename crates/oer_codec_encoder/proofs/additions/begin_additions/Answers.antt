use Rattle.std.proofs.Common.{◌≡◌, ◌+◌, ◌*◌, ◌∙◌, subst, arith, refl}
use Rattle.asn1_model.specs.Numbers.{missing}
use Rattle.oer_codec_encoder.specs.declared.frame.Frame.TheVariants.{Components}
use Rattle.oer_codec_encoder.proofs.AdditionScopes.{does_additions, is_so}
use Rattle.oer_codec_encoder.proofs.Refusals.{no_root}
use Rattle.asn1_values_bits.proofs.Refused.{though_refused}
use Rattle.asn1_values_identifiers.proofs.Begins.{begins_same}
use Rattle.oer_codec_writing.proofs.Fronts.{begins_behind_text}
use Rattle.oer_codec_encoder.proofs.EarlierOctets.{keeps_behind, keeps_same}
use Rattle.oer_codec_encoder.proofs.additions.begin_additions.Goals as goal

pub returns-in_default-clause-step : goal.returns-in_default-clause-step
returns-in_default-clause-step c = no_root c.args.frames.now c.args.octets.now.items c.args.count c.in_default.ensures.none

pub returns-clause-step : goal.returns-clause-step
returns-clause-step c =
    let p = c.in-Some.preamble in
    let e = c.in-Some.ensures.some in
    let n = c.args.count in
    let k = c.preamble_len.result in
    let bits : 0 + n ≡ n + 0 = omega arith in
    does_additions c.args.frames.now e.0 p c.args.octets.now.items e.1 (is_so p.extensible c.if-not-preamble.false)
    (omega (arith, c.if-preamble-gt0.false)) c.replace.new.self n k c.len-bitmap.result c.len-root_end.result c.push_bits_heading.new.octets.items c.push_zeros.new.octets.items
    c.ranges.count.fits c.in_ok-push_bits_heading.ensures.text (subst (λ m. k * 8 ≡ m + missing m) bits c.preamble_len.ensures)
    (c.len-bitmap.ensures ∙ c.push_bits_heading.new.octets.ok.0) (c.len-root_end.ensures ∙ c.args.octets.now.ok.0) c.in_ok-push_zeros.ensures.text (c.replace.ensures (Components p) e.0 e.1)

pub returns-in_default-clause-kept : goal.returns-in_default-clause-kept
returns-in_default-clause-kept c = keeps_same _ _ _ _ refl refl

pub returns-in_err-push_bits_heading-clause-kept : goal.returns-in_err-push_bits_heading-clause-kept
returns-in_err-push_bits_heading-clause-kept c = though_refused _ (keeps_behind _ _ _ _ refl c.in_err-push_bits_heading.ensures.kept)

pub returns-in_err-push_zeros-clause-kept : goal.returns-in_err-push_zeros-clause-kept
returns-in_err-push_zeros-clause-kept c =
    though_refused _ (keeps_behind _ _ _ _ refl (begins_behind_text _ c.args.octets.now.items c.push_bits_heading.new.octets.items _
    c.in_ok-push_bits_heading.ensures.text (begins_same _ _ c.in_err-push_zeros.ensures.kept)))

pub returns-then-not-preamble-clause-kept : goal.returns-then-not-preamble-clause-kept
returns-then-not-preamble-clause-kept c = keeps_same _ _ _ _ refl refl
