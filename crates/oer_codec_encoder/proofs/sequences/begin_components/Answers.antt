use Rattle.std.proofs.Common.{◌≡◌, ◌+◌, ◌*◌, ◌∙◌, cond, subst, arith, refl, sym}
use Rattle.asn1_model.specs.Numbers.{missing}
use Rattle.oer_codec_encoder.proofs.Scopes.{does_begin}
use Rattle.asn1_values_bits.proofs.Refused.{though_refused}
use Rattle.oer_codec_encoder.proofs.EarlierOctets.{keeps_behind, keeps_same}
use Rattle.oer_codec_encoder.proofs.sequences.begin_components.Goals as goal

pub returns-clause-step : goal.returns-clause-step
returns-clause-step c =
    let bits : cond c.args.extensible 1 0 + c.args.optional ≡ c.args.optional + cond c.args.extensible 1 0 = omega arith in
    does_begin c.args.frames.now c.open.new.self c.args.octets.now.items c.push_zeros.new.octets.items c.args.extensible c.args.optional c.preamble_len.result c.len-start.result
    c.ranges.optional.fits (subst (λ n. c.preamble_len.result * 8 ≡ n + missing n) bits c.preamble_len.ensures)
    (c.len-start.ensures ∙ c.args.octets.now.ok.0) c.in_ok-push_zeros.ensures.text c.in_ok-open.ensures.ok

pub returns-in_err-push_zeros-clause-kept : goal.returns-in_err-push_zeros-clause-kept
returns-in_err-push_zeros-clause-kept c = though_refused _ (keeps_same _ _ _ _ refl c.in_err-push_zeros.ensures.kept)

pub returns-in_err-open-clause-kept : goal.returns-in_err-open-clause-kept
returns-in_err-open-clause-kept c = though_refused _ (keeps_behind _ _ _ _ c.in_err-open.ensures.kept (_, sym c.in_ok-push_zeros.ensures.text))
