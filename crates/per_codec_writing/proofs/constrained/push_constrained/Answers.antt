use Rattle.std.proofs.Common.{◌≡◌, true, not, ltb, ◌||◌, ap, sym, ◌∙◌, arith}
use Rattle.asn1_model.specs.Numbers.{binary, width}
use Rattle.per_codec_packing.specs.FieldLists.{as_field_list}
use Rattle.per_codec_writing.specs.Writing.{place, plus}
use Rattle.per_codec_writing.proofs.PaddingFieldLists.{adds_field_list}
use Rattle.per_codec_writing.proofs.ConstrainedFieldLists.{outside, constrained_bits, in_bits_alone, in_bits_below}
use Rattle.per_codec_rules.specs.Variants.{is_aligned}
use Rattle.per_codec_writing.proofs.constrained.push_constrained.Goals as goal
use Rattle.per_codec_writing.proofs.constrained.push_constrained.Goals.{else-aligned-via-then-aligned+else-span-ge255, else-aligned-via-else-aligned}

pub returns-then-value-span : goal.returns-then-value-span
returns-then-value-span c = outside (is_aligned c.args.variant) c.args.span c.args.value (place c.args.output.now) c.if-value-span.true

pub returns : goal.returns
returns c =
    let old = c.args.output.now in
    let al = (is_aligned c.args.variant) in
    let span = c.args.span in
    let small : (not al || ltb span 255) ≡ true = elim c.else-aligned.branch [
      | else-aligned-via-then-aligned+else-span-ge255 w ↦ in_bits_below al span (omega (arith, w.if-span-ge255.false))
      | else-aligned-via-else-aligned w ↦ in_bits_alone al span (sym c.is_aligned-aligned.ensures ∙ w.if-aligned.false)
    ] in
    adds_field_list _ (as_field_list (binary (width span) c.args.value)) old c.push_bits.new.self
    (constrained_bits al span c.args.value (place old) (omega (arith, c.if-value-span.false)) small)
    (c.in_ok-push_bits.ensures.ok ∙ ap (λ n. plus old (as_field_list (binary n c.args.value))) c.bit_count.ensures.value)
