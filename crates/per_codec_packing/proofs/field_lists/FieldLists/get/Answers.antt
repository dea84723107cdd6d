use Rattle.std.proofs.Common.{◌<◌, ◌≡◌, [], length, get_or, drop, take, ap, subst, sym, ◌∙◌, arith}
use Rattle.std.proofs.lemmas.List.{length-map, length-take-le}
use Rattle.asn1_values_bits.specs.BitStr.{bits_of}
use Rattle.per_codec_packing.specs.Spread.{spread, Ascend}
use Rattle.per_codec_packing.specs.Viewed.{field_list_of}
use Rattle.per_codec_packing.specs.Parts.{cut, field_list_in}
use Rattle.per_codec_packing.proofs.Sharing.{part_of, field_list_at, cut_both}
use Rattle.per_codec_packing.proofs.field_lists.FieldLists.get.Goals as goal

pub index-part-requires : goal.index-part-requires
index-part-requires c = omega (
  arith,
  length-map c.self.inside.parts.items (field_list_in c.self.inside.bits c.self.inside.paddings.items),
  c.self.inside.parts.ok.0,
  ap length c.self.view_is,
  c.requires,
)

pub split_at-requires : goal.split_at-requires
split_at-requires c =
    let all = c.self.inside in
    let h = part_of all.bits all.paddings.items all.parts.items c.args.self.now c.args.index c.index-part.result.now c.self.invariant c.self.view_is c.requires c.index-part.ensures in
    omega (arith, h.bits_within, ap length c.as_bitslice.ensures.bits)

pub offset_bounds-deref-part : goal.offset_bounds-deref-part
offset_bounds-deref-part c =
    let all = c.self.inside in
    let h = part_of all.bits all.paddings.items all.parts.items c.args.self.now c.args.index c.index-part.result.now c.self.invariant c.self.view_is c.requires c.index-part.ensures in
    record { fits = omega (arith, h.paddings_ordered, h.paddings_within, ap length c.deref.ensures.value, c.deref.type_inv.1) }

pub slice_bounds-paddings-count : goal.slice_bounds-paddings-count
slice_bounds-paddings-count c =
    let all = c.self.inside in
    (part_of all.bits all.paddings.items all.parts.items c.args.self.now c.args.index c.index-part.result.now c.self.invariant c.self.view_is c.requires c.index-part.ensures).paddings_ordered

pub slice_bounds-paddings-start : goal.slice_bounds-paddings-start
slice_bounds-paddings-start c =
    let all = c.self.inside in
    (part_of all.bits all.paddings.items all.parts.items c.args.self.now c.args.index c.index-part.result.now c.self.invariant c.self.view_is c.requires c.index-part.ensures).paddings_ordered

pub slice_bounds-paddings-end : goal.slice_bounds-paddings-end
slice_bounds-paddings-end c =
    let all = c.self.inside in
    let h = part_of all.bits all.paddings.items all.parts.items c.args.self.now c.args.index c.index-part.result.now c.self.invariant c.self.view_is c.requires c.index-part.ensures in
    omega (arith, h.paddings_within, ap length c.deref.ensures.value)

pub split_at-requires-2 : goal.split_at-requires-2
split_at-requires-2 c =
    let all = c.self.inside in
    let h = part_of all.bits all.paddings.items all.parts.items c.args.self.now c.args.index c.index-part.result.now c.self.invariant c.self.view_is c.requires c.index-part.ensures in
    let front = length-take-le c.index-part.result.now.bits.to (bits_of c.as_bitslice.result) (omega (arith, h.bits_within, ap length c.as_bitslice.ensures.bits)) in
    omega (arith, h.bits_ordered, ap length c.split_at.ensures.front, front)

pub invariant_of-result : goal.invariant_of-result
invariant_of-result c =
    let all = c.self.inside in
    let p = c.index-part.result.now in
    let h = part_of all.bits all.paddings.items all.parts.items c.args.self.now c.args.index p c.self.invariant c.self.view_is c.requires c.index-part.ensures in
    let bits : bits_of c.split_at-2.result.1 ≡ cut p.bits all.bits = c.split_at-2.ensures.rest ∙
    ap (drop p.bits.from) (c.split_at.ensures.front ∙ ap (take p.bits.to) c.as_bitslice.ensures.bits) ∙ cut_both p.bits all.bits h.bits_ordered in
    record {
      ascend = subst (λ l. Ascend 0 (cut p.paddings l) (length (bits_of c.split_at-2.result.1))) (sym c.deref.ensures.value)
          (subst (λ l. Ascend 0 (cut p.paddings all.paddings.items) (length l)) (sym bits) h.ascend);
    }

pub returns : goal.returns
unfolding field_list_of
returns c =
    let all = c.self.inside in
    let p = c.index-part.result.now in
    let h = part_of all.bits all.paddings.items all.parts.items c.args.self.now c.args.index p c.self.invariant c.self.view_is c.requires c.index-part.ensures in
    let bits : bits_of c.split_at-2.result.1 ≡ cut p.bits all.bits = c.split_at-2.ensures.rest ∙
    ap (drop p.bits.from) (c.split_at.ensures.front ∙ ap (take p.bits.to) c.as_bitslice.ensures.bits) ∙ cut_both p.bits all.bits h.bits_ordered in
    let within : c.args.index < length all.parts.items = omega (arith, length-map all.parts.items (field_list_in all.bits all.paddings.items), ap length c.self.view_is, c.requires) in
    ap (λ l. spread 0 l (cut p.paddings c.deref.result.now)) bits
    ∙ ap (λ l. spread 0 (cut p.bits all.bits) (cut p.paddings l)) c.deref.ensures.value
    ∙ field_list_at all.bits all.paddings.items all.parts.items c.args.index p p within c.index-part.ensures
    ∙ ap (λ ts. get_or ts c.args.index []) c.self.view_is
