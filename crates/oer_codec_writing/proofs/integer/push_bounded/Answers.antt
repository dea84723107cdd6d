use Rattle.std.proofs.Common.{◌≤◌, ℤ, IfSome, to_z-of_z, ap, subst, sym, ◌∙◌}
use Rattle.asn1_model.specs.Numbers.{signed_octets}
use Rattle.asn1_schema_constraints.specs.Bounds.{lower, upper}
use Rattle.asn1_values_natives.specs.Octets.{is_below_zero}
use Rattle.oer_codec_writing.proofs.IntegerTexts.{if_some, signed_width, width_few, natural_sign}
use Rattle.asn1_values_bits.proofs.Refused.{though_refused}
use Rattle.oer_codec_writing.proofs.integer.push_bounded.Goals as goal

pub push_signed-requires : goal.push_signed-requires
push_signed-requires c =
    let v = c.args.number in
    let b = c.args.bounds in
    let r = c.range_in_bytes-signed in
    let fits = if_some r.result.1 (λ k. (signed_octets v ≤ k) × (k ≤ 16))
    (λ k e. (signed_width (lower b) (upper b) v c.requires k (sym r.ensures.sign ∙ c.if-signed.true) (sym r.ensures.width ∙ e), width_few (lower b) (upper b) k (sym r.ensures.width ∙ e))) in
    subst (λ (z : ℤ). IfSome r.result.1 (λ k. (signed_octets z ≤ k) × (k ≤ 16))) (sym (to_z-of_z c.ranges.number)) fits

pub push_natural-requires-clause-sign : goal.push_natural-requires-clause-sign
push_natural-requires-clause-sign c =
    let sign = natural_sign (lower c.args.bounds) (upper c.args.bounds) c.args.number c.requires (sym c.range_in_bytes-signed.ensures.sign ∙ c.if-signed.false) in
    ap is_below_zero (to_z-of_z c.ranges.number) ∙ sign

pub push_natural-requires-clause-width : goal.push_natural-requires-clause-width
push_natural-requires-clause-width c =
    let b = c.args.bounds in
    let r = c.range_in_bytes-signed in
    if_some r.result.1 (λ k. k ≤ 16) (λ k e. width_few (lower b) (upper b) k (sym r.ensures.width ∙ e))

pub returns-in_err-push_signed-clause-kept : goal.returns-in_err-push_signed-clause-kept
returns-in_err-push_signed-clause-kept c = though_refused _ c.in_err-push_signed.ensures.kept

pub returns-in_err-push_natural-clause-kept : goal.returns-in_err-push_natural-clause-kept
returns-in_err-push_natural-clause-kept c = though_refused _ c.in_err-push_natural.ensures.kept
