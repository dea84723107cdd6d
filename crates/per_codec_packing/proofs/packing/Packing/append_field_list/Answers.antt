use Rattle.std.proofs.Common.{◌≡◌, ◌∙◌, [], length, sym, subst, arith}
use Rattle.std.proofs.lemmas.Bool.{eqb-true}
use Rattle.asn1_values_bits.specs.BitStr.{bits_of}
use Rattle.per_codec_packing.specs.Packed.{Adds, place}
use Rattle.per_codec_packing.specs.Spread.{spread}
use Rattle.per_codec_packing.specs.FieldLists.{field_list_at, as_form}
use Rattle.per_codec_packing.specs.Viewed.{field_list_of}
use Rattle.per_codec_packing.proofs.Adding.{adds_form_bits}
use Rattle.per_codec_packing.proofs.Spread.{none_left}
use Rattle.per_codec_packing.proofs.packing.Packing.append_field_list.Goals as goal

pub returns-then-is_empty : goal.returns-then-is_empty
unfolding field_list_of
returns-then-is_empty c =
    let bits = bits_of c.args.field_list.bits in
    let old = c.args.self.now in
    let new = c.extend_from_bitslice.new.self in
    let no_length = eqb-true (length c.args.field_list.paddings.now) 0 (sym c.is_empty.ensures ∙ c.if-is_empty.true) in
    let none : c.args.field_list.paddings.now ≡ [] = none_left 0 c.args.field_list.paddings.now (omega (arith, no_length)) in
    subst (λ l. Adds (field_list_at (as_form (spread 0 bits l)) (place old)) old new) (sym none) (adds_form_bits bits old new c.in_ok-extend_from_bitslice.ensures.ok)
