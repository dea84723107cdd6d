use Rattle.std.proofs.Common.{refl, ◌≡◌, ℤ, true, false, Option, None, to_z-of_z, subst, sym, ◌∙◌}
use Rattle.asn1_model.specs.Form.{written}
use Rattle.asn1_model.specs.Oer
use Rattle.asn1_schema_constraints.specs.Bounds.{admits_number, lower, upper}
use Rattle.asn1_schema_constraints.specs.Terms.{bounds_of, held_of}
use Rattle.asn1_schema_constraints.specs.declared.extensions.Extensible.{Extensible}
use Rattle.asn1_schema_constraints.specs.declared.parts.Value.{Value}
use Rattle.oer_codec_writing.specs.Writing.{Adds}
use Rattle.oer_codec_writing.proofs.DigitTexts.{few_held}
use Rattle.oer_codec_writing.proofs.ScalarTexts.{adds_same}
use Rattle.oer_codec_writing.proofs.IntegerTexts.{unbounded_text, extensible_text, bounded_text, outside_none}
use Rattle.asn1_values_bits.proofs.Refused.{though_refused}
use Rattle.asn1_values_identifiers.proofs.Begins.{begins_same}
use Rattle.oer_codec_writing.proofs.integer.push_number.Goals as goal

pub returns-in_default-clause-text : goal.returns-in_default-clause-text
returns-in_default-clause-text c h w =
    let v = c.args.number in
    let old = c.args.octets.now.items in
    let new = c.push_signed.new.octets.items in
    subst (λ (o : Option (Extensible Value)). Adds (written (Oer.integer_form (bounds_of o) (held_of o h) v) 0) old new) (sym c.in_default.is)
    (adds_same _ (written (Oer.signed_form None v) 0) old new (unbounded_text h v w)
    (subst (λ (z : ℤ). Adds (written (Oer.signed_form None z) 0) old new) (to_z-of_z c.ranges.number) c.in_ok-push_signed.ensures.text))

pub returns-then-is_some-clause-text : goal.returns-then-is_some-clause-text
returns-then-is_some-clause-text c h w =
    let v = c.args.number in
    let old = c.args.octets.now.items in
    let new = c.push_signed-then-is_some.new.octets.items in
    subst (λ (o : Option (Extensible Value)). Adds (written (Oer.integer_form (bounds_of o) (held_of o h) v) 0) old new) (sym c.in-Some.is)
    (adds_same _ (written (Oer.signed_form None v) 0) old new (extensible_text c.in-Some.limits h v w (few_held v c.ranges.number) (sym c.is_some.ensures ∙ c.if-is_some.true))
    (subst (λ (z : ℤ). Adds (written (Oer.signed_form None z) 0) old new) (to_z-of_z c.ranges.number) c.in_ok-push_signed-2.ensures.text))

pub returns-then-not-contains-clause-text : goal.returns-then-not-contains-clause-text
returns-then-not-contains-clause-text c h w =
    let v = c.args.number in
    let b = c.in-Some.limits.constraint.value in
    let told = c.contains.ensures in
    let answer = c.if-not-contains.true in
    let same = to_z-of_z c.ranges.number in
    let out : admits_number b v ≡ false = cc in
    subst (λ (o : Option (Extensible Value)). written (Oer.integer_form (bounds_of o) (held_of o h) v) 0 ≡ None) (sym c.in-Some.is)
    (outside_none c.in-Some.limits h v w (few_held v c.ranges.number) (sym c.is_some.ensures ∙ c.if-is_some.false) out)

pub returns-clause-text : goal.returns-clause-text
returns-clause-text c h w =
    let v = c.args.number in
    let b = c.in-Some.limits.constraint.value in
    let old = c.args.octets.now.items in
    let new = c.push_bounded.new.octets.items in
    let told = c.contains.ensures in
    let answer = c.if-not-contains.false in
    let same = to_z-of_z c.ranges.number in
    let within : admits_number b v ≡ true = cc in
    subst (λ (o : Option (Extensible Value)). Adds (written (Oer.integer_form (bounds_of o) (held_of o h) v) 0) old new) (sym c.in-Some.is)
    (adds_same _ (written (Oer.bounded (lower b) (upper b) v) 0) old new (bounded_text c.in-Some.limits h v w (few_held v c.ranges.number) (sym c.is_some.ensures ∙ c.if-is_some.false) within)
    (subst (λ (z : ℤ). Adds (written (Oer.bounded (lower b) (upper b) z) 0) old new) (to_z-of_z c.ranges.number) c.in_ok-push_bounded.ensures.text))

pub returns-in_err-push_signed-clause-kept : goal.returns-in_err-push_signed-clause-kept
returns-in_err-push_signed-clause-kept c = though_refused _ c.in_err-push_signed.ensures.kept

pub returns-in_err-push_signed-2-clause-kept : goal.returns-in_err-push_signed-2-clause-kept
returns-in_err-push_signed-2-clause-kept c = though_refused _ c.in_err-push_signed-2.ensures.kept

pub returns-in_err-push_bounded-clause-kept : goal.returns-in_err-push_bounded-clause-kept
returns-in_err-push_bounded-clause-kept c = though_refused _ c.in_err-push_bounded.ensures.kept

pub returns-then-not-contains-clause-kept : goal.returns-then-not-contains-clause-kept
returns-then-not-contains-clause-kept c = begins_same _ _ refl
