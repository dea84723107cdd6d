use Rattle.std.proofs.Common.{refl, ◌≡◌, ◌<◌, ℤ, is_some, true, false, MatchResult, Option, Some, None, FitsSigned, to_z-of_z, ap, subst, sym, ◌∙◌}
use Rattle.std.specs.Int.{w128}
use Rattle.asn1_model.specs.Form.{written}
use Rattle.asn1_model.specs.Numbers.{is_within, signed_octets}
use Rattle.asn1_model.specs.Oer
use Rattle.asn1_model.specs.Schema.{Range}
use Rattle.asn1_schema_constraints.specs.Terms.{bounds_of, held_of}
use Rattle.asn1_schema_constraints.specs.declared.extensions.Extensible.{Extensible}
use Rattle.asn1_schema_constraints.specs.declared.parts.Value.{Value}
use Rattle.asn1_values_natives.specs.Octets.{signed_octets_of}
use Rattle.oer_codec_writing.specs.Writing.{Adds, Refuses}
use Rattle.oer_codec_writing.proofs.IntegerTexts.{held_within_wide, many_past, signed_counted, unbounded_text, wide_none}
use Rattle.asn1_values_bits.proofs.Refused.{though_refused}
use Rattle.asn1_values_identifiers.proofs.Begins.{begins_same}
use Rattle.oer_codec_writing.proofs.integer.push_integer.Goals as goal

refused : (o : Option (Extensible Value)) (h : Range) (v : ℤ) → is_some o ≡ true → 16 < signed_octets v → written (Oer.integer_form (bounds_of o) (held_of o h) v) 0 ≡ None
refused None h v e l = cc
refused (Some c) h v e l = wide_none c h v l

unbounded : (o : Option (Extensible Value)) (h : Range) (v : ℤ) → is_some o ≡ false → is_within h v ≡ true →
    written (Oer.integer_form (bounds_of o) (held_of o h) v) 0 ≡ written (Oer.counted (signed_octets_of v)) 0
unbounded None h v e w = unbounded_text h v w ∙ signed_counted v
unbounded (Some c) h v e w = cc

pub returns-in-Some-clause-text : goal.returns-in-Some-clause-text
returns-in-Some-clause-text g c =
    let h = g.I.IntegerType.held in
    let o = c.args.constraints.now.value in
    let e = c.in-Some.ensures.number in
    let fits : FitsSigned w128 c.in-Some.number = subst (λ (z : ℤ). FitsSigned w128 z) (sym e) (held_within_wide (g.I.IntegerType.value c.args.value.now) (sym c.in-Some.ensures.fits)) in
    let t = to_z-of_z fits ∙ e in
    subst (λ (z : ℤ). MatchResult c.push_number.result (λ _. Adds (written (Oer.integer_form (bounds_of o) (held_of o h) z) 0) c.args.octets.now.items
    c.push_number.new.octets.items) (Refuses (written (Oer.integer_form (bounds_of o) (held_of o h) z) 0))) t
    (c.push_number.ensures.text h (ap (is_within h) t ∙ c.to_i128.ensures.within))

pub returns-then-is_some-clause-text : goal.returns-then-is_some-clause-text
returns-then-is_some-clause-text g c =
    let v = g.I.IntegerType.value c.args.value.now in
    refused c.args.constraints.now.value g.I.IntegerType.held v (sym c.is_some.ensures ∙ c.if-is_some.true) (many_past v (sym c.to_i128.ensures.fits ∙ ap is_some c.in_default.is))

pub returns-clause-text : goal.returns-clause-text
returns-clause-text g c =
    let old = c.args.octets.now.items in
    let new = c.push_counted.new.octets.items in
    subst (λ t. Adds t old new)
    (sym (unbounded c.args.constraints.now.value g.I.IntegerType.held (g.I.IntegerType.value c.args.value.now) (sym c.is_some.ensures ∙ c.if-is_some.false) c.to_i128.ensures.within))
    (subst (λ l. Adds (written (Oer.counted l) 0) old new) (c.as_slice.ensures ∙ c.to_signed_bytes_be.ensures.octets) c.in_ok-push_counted.ensures.text)

pub returns-in_err-push_counted-clause-kept : goal.returns-in_err-push_counted-clause-kept
returns-in_err-push_counted-clause-kept g c = though_refused _ c.in_err-push_counted.ensures.kept

pub returns-then-is_some-clause-kept : goal.returns-then-is_some-clause-kept
returns-then-is_some-clause-kept g c = begins_same _ _ refl
