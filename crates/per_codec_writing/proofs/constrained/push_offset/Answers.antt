use Rattle.std.proofs.Common.{◌≡◌, inl, inr, true, not, ltb, ◌||◌, ap, sym, ◌∙◌, arith}
use Rattle.asn1_model.specs.Numbers.{binary, width}
use Rattle.asn1_values_natives.proofs.Widths.{width-bits, bits-least}
use Rattle.per_codec_packing.specs.FieldLists.{as_field_list}
use Rattle.per_codec_writing.specs.Writing.{place, plus}
use Rattle.per_codec_writing.proofs.PaddingFieldLists.{adds_field_list}
use Rattle.per_codec_writing.proofs.ConstrainedFieldLists.{constrained_bits, in_bits_alone, in_bits_below}
use Rattle.per_codec_rules.specs.Variants.{is_aligned}
use Rattle.per_codec_writing.proofs.constrained.push_offset.Goals as goal

pub push_bits-requires : goal.push_bits-requires
push_bits-requires c =
    let span = c.args.span in
    let few = bits-least span 64 (width span) (width-bits span) c.ranges.span.fits in
    omega (arith, few, c.requires.bits, c.from-3.ensures)

pub returns : goal.returns
returns c =
    let old = c.args.output.now in
    let al = is_aligned c.args.variant in
    let span = c.args.span in
    let value = c.args.value in
    let small : (not al || ltb span 255) ≡ true = elim c.else-is_aligned.either [
      | inl h ↦ in_bits_below al span h.1
      | inr h ↦ in_bits_alone al span (sym c.is_aligned.ensures ∙ h)
    ] in
    let added = simp (c.from-2.ensures, c.from-3.ensures) at c.in_ok-push_bits.ensures.ok in
    adds_field_list _ (as_field_list (binary (width span) value)) old c.push_bits.new.self (constrained_bits al span value (place old) c.requires.within small)
    (added ∙ ap (λ n. plus old (as_field_list (binary n value))) c.requires.bits)
