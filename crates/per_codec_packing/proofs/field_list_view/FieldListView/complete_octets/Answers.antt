use Rattle.std.proofs.Common.{◌≡◌, true, false, sym, ◌∙◌}
use Rattle.asn1_values_bits.specs.BitStr.{bits_of, offset_of}
use Rattle.per_codec_packing.specs.Viewed.{field_list_of}
use Rattle.per_codec_packing.proofs.Whole.{where_aligned}
use Rattle.per_codec_packing.proofs.field_list_view.FieldListView.complete_octets.Goals as goal

pub returns : goal.returns
unfolding field_list_of
returns c =
    let field_list = c.args.self.now in
    where_aligned (bits_of field_list.bits) field_list.paddings.now (offset_of field_list.bits) c.aligned_octets.result
    (c.are_whole.ensures c.if-not-are_whole.false) field_list.ascend (λ e. let t : true ≡ false = sym (c.is_empty.ensures.1 e) ∙
    c.if-is_empty.false in cc) c.aligned_octets.ensures.aligned c.aligned_octets.ensures.octets
