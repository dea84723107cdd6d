use Rattle.std.proofs.Common.{◌∙◌}
use Rattle.asn1_schema_constraints.specs.Bounds.{counts_of}
use Rattle.asn1_schema_constraints.specs.Terms.{sizes_of, size_of}
use Rattle.per_codec_writing.specs.Writing.{place}
use Rattle.per_codec_writing.proofs.PaddingFieldLists.{adds_same}
use Rattle.per_codec_writing.proofs.Adding.{raised}
use Rattle.per_codec_writing.proofs.Fragments.{all_octets}
use Rattle.per_codec_writing.proofs.StringFieldLists.{octet_string_field_list}
use Rattle.per_codec_rules.specs.Variants.{is_aligned}
use Rattle.per_codec_writing.proofs.octet_string.push_octet_string.Goals as goal

pub returns-in_err-push_sized : goal.returns-in_err-push_sized
returns-in_err-push_sized c =
    raised _ _ _ _ _ c.from_residual.ensures.1
    (λ n. octet_string_field_list (is_aligned c.args.variant) (sizes_of c.args.constraints.now.size) (size_of c.sizes-sizes.result)
    (counts_of c.args.held) c.args.value.now c.string_has_padding-has_padding.result (place c.args.output.now) c.sizes-sizes.ensures
    (all_octets c.args.value.now c.type_inv.value) c.string_has_padding-has_padding.ensures ∙ n)
    c.in_err-push_sized.ensures

pub returns : goal.returns
returns c =
    adds_same _ _ c.args.output.now c.push_sized.new.output
    (octet_string_field_list (is_aligned c.args.variant) (sizes_of c.args.constraints.now.size) (size_of c.sizes-sizes.result) (counts_of c.args.held)
    c.args.value.now c.string_has_padding-has_padding.result (place c.args.output.now) c.sizes-sizes.ensures
    (all_octets c.args.value.now c.type_inv.value) c.string_has_padding-has_padding.ensures)
    c.in_ok-push_sized.ensures
