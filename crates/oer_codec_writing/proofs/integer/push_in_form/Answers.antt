use Rattle.std.proofs.Common.{◌++◌, ◌∙◌, ap, of_z, ◌⊎◌, inl, inr, to_z-of_z, arith}
use Rattle.std.proofs.lemmas.Int.{ints}
use Rattle.std.specs.Prelude.{Some, ◌<ℤ◌}
use Rattle.std.specs.Int.{w128}
use Rattle.asn1_model.specs.Numbers.{digits}
use Rattle.oer_codec_writing.proofs.FormTexts.{form_refused, form_added}
use Rattle.oer_codec_writing.proofs.integer.push_in_form.Goals as goal
use Rattle.oer_codec_writing.proofs.integer.push_in_form.Goals.{then-number-low-via-then-number-low, then-number-low-via-else-number-low+then-high-number}

pub returns-then-number-low-clause-text : goal.returns-then-number-low-clause-text
returns-then-number-low-clause-text c =
    let f = c.args.form.now in
    let v = c.args.number in
    let same = to_z-of_z c.ranges.number in
    let out : (v <ℤ f.low) ⊎ (f.high <ℤ v) = elim c.then-number-low.branch [
      | then-number-low-via-then-number-low b ↦ inl (omega (arith, ints, same, c.low.ensures, b.if-number-low.true))
      | then-number-low-via-else-number-low+then-high-number b ↦ inr (omega (arith, ints, same, b.high.ensures, b.if-high-number.true))
    ] in
    form_refused f v c.ranges.number out

pub returns-clause-text : goal.returns-clause-text
returns-clause-text c =
    let v = c.args.number in
    let old = c.args.octets.now.items in
    let same = to_z-of_z c.ranges.number in
    form_added c.args.form.now v c.ranges.number c.from.result old c.push_digits.new.octets.items (ap Some c.from.ensures ∙ c.octets.ensures)
    (omega (arith, ints, same, c.low.ensures, c.if-number-low.false)) (omega (arith, ints, same, c.high.ensures, c.if-high-number.false))
    (c.in_ok-push_digits.ensures.text ∙ ap (λ b. old ++ digits 256 c.from.result b) (c.cast_unsigned.ensures ∙ ap (of_z w128) same))
