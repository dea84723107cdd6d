use Rattle.std.proofs.Common.{length, get_or, drop, ap, refl, ◌∙◌, arith}
use Rattle.std.proofs.lemmas.List.{length-take-le}
use Rattle.asn1_values_bits.specs.BitStr.{bits_of}
use Rattle.per_codec_packing.specs.Viewed.{field_list_of}
use Rattle.per_codec_packing.proofs.Appending.{not_before, not_past, last_within, one_piece, last_piece}
use Rattle.per_codec_packing.proofs.packing.Packing.append_pieces.Goals as goal

pub split_at-requires : goal.split_at-requires
split_at-requires c =
    let at = c.loop-padding in
    not_past (bits_of c.args.field_list.bits) c.args.field_list.paddings.now at.from at.padding-index c.args.self.now at.self at.invariant
    (get_or c.args.field_list.paddings.now at.padding-index 0) c.loop-padding-test.true refl

pub split_at-requires-in-loop-padding : goal.split_at-requires-in-loop-padding
split_at-requires-in-loop-padding c =
    let at = c.loop-padding in
    let bits = bits_of c.args.field_list.bits in
    let paddings = c.args.field_list.paddings.now in
    let padding = get_or paddings at.padding-index 0 in
    let past = not_past bits paddings at.from at.padding-index c.args.self.now at.self at.invariant padding c.loop-padding-test.true refl in
    let before = not_before bits paddings at.from at.padding-index c.args.self.now at.self at.invariant padding c.loop-padding-test.true refl in
    let size = ap length c.split_at.ensures.front ∙ length-take-le padding bits past in
    omega (arith, size, before)

pub loop-padding-preserved : goal.loop-padding-preserved
loop-padding-preserved c =
    let at = c.loop-padding in
    let paddings = c.args.field_list.paddings.now in
    one_piece (bits_of c.args.field_list.bits) paddings at.from at.padding-index c.args.self.now at.self at.invariant (get_or paddings at.padding-index 0) c.loop-padding-test.true refl
    (bits_of c.split_at-in-loop-padding.result.1) c.extend_from_bitslice.new.self c.push_padding.new.self
    (c.split_at-in-loop-padding.ensures.rest ∙ ap (drop at.from) c.split_at.ensures.front)
    c.in_ok-extend_from_bitslice.ensures.ok c.in_ok-push_padding.ensures.ok

pub split_at-requires-2 : goal.split_at-requires-2
split_at-requires-2 c =
    let at = c.loop-padding in
    last_within (bits_of c.args.field_list.bits) c.args.field_list.paddings.now at.from at.padding-index c.args.self.now at.self at.invariant

pub returns : goal.returns
unfolding field_list_of
returns c =
    let at = c.loop-padding in
    last_piece (bits_of c.args.field_list.bits) c.args.field_list.paddings.now at.from at.padding-index c.args.self.now at.self at.invariant
    (bits_of c.split_at-2.result.1) c.extend_from_bitslice-2.new.self c.loop-padding-test.false
    c.split_at-2.ensures.rest c.in_ok-extend_from_bitslice-2.ensures.ok
