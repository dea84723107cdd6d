use Rattle.std.proofs.Common.{ap, ◌∙◌}
use Rattle.asn1_model.specs.Per
use Rattle.asn1_schema_constraints.specs.Bounds.{counts_of}
use Rattle.asn1_schema_constraints.specs.Terms.{sizes_of, size_of}
use Rattle.asn1_values_bits.specs.BitStr.{bits_of}
use Rattle.per_codec_writing.specs.Writing.{place}
use Rattle.per_codec_writing.proofs.PaddingFieldLists.{adds_same}
use Rattle.per_codec_writing.proofs.Adding.{raised}
use Rattle.per_codec_writing.proofs.StringFieldLists.{bit_string_field_list}
use Rattle.per_codec_rules.specs.Variants.{is_aligned}
use Rattle.per_codec_writing.proofs.bit_string.push_bit_string.Goals as goal

pub returns-in_err-push_sized : goal.returns-in_err-push_sized
returns-in_err-push_sized c =
    let y = size_of c.sizes-sizes.result in
    let has_padding = c.string_has_padding-has_padding.ensures ∙ ap (λ n. Per.string_has_padding 1 n y.counts) c.len.ensures in
    raised _ _ _ _ _ c.from_residual.ensures.1 (λ n. bit_string_field_list (is_aligned c.args.variant) (sizes_of c.args.constraints.now.size) y
    (counts_of c.args.held) (bits_of c.args.value) c.string_has_padding-has_padding.result (place c.args.output.now) c.sizes-sizes.ensures has_padding ∙ n) c.in_err-push_sized.ensures

pub returns : goal.returns
returns c =
    let y = size_of c.sizes-sizes.result in
    let has_padding = c.string_has_padding-has_padding.ensures ∙ ap (λ n. Per.string_has_padding 1 n y.counts) c.len.ensures in
    adds_same _ _ c.args.output.now c.push_sized.new.output (bit_string_field_list (is_aligned c.args.variant) (sizes_of c.args.constraints.now.size)
    y (counts_of c.args.held) (bits_of c.args.value) c.string_has_padding-has_padding.result (place c.args.output.now) c.sizes-sizes.ensures has_padding) c.in_ok-push_sized.ensures
