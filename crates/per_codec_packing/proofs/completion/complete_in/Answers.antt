use Rattle.std.proofs.Common.{◌≡◌, true, false, Some, ap, sym, ◌∙◌}
use Rattle.asn1_model.specs.Form.{written}
use Rattle.per_codec_packing.specs.FieldLists.{as_form}
use Rattle.per_codec_packing.specs.Viewed.{field_list_of}
use Rattle.per_codec_packing.proofs.Complete.{alone, of_none, of_some}
use Rattle.per_codec_packing.proofs.completion.complete_in.Goals as goal

pub returns-then-is_empty : goal.returns-then-is_empty
returns-then-is_empty c =
    let t = field_list_of c.args.field_list in
    let bits : written (as_form t) 0 ≡ Some c.into_bits-bits.result =
    alone t c.from_octets-alone.result c.append_field_list.new.self c.from_octets-alone.ensures c.in_ok-append_field_list.ensures ∙ ap Some (sym c.into_bits-bits.ensures.bits) in
    of_none (as_form t) c.into_bits-bits.result c.into_vec-octets.result.items c.push.new.self.items bits (c.is_empty.ensures.0 c.if-is_empty.true)
    c.into_vec-octets.ensures.bits c.in_ok-push.ensures.items

pub returns : goal.returns
returns c =
    let t = field_list_of c.args.field_list in
    let bits : written (as_form t) 0 ≡ Some c.into_bits-bits.result =
    alone t c.from_octets-alone.result c.append_field_list.new.self c.from_octets-alone.ensures c.in_ok-append_field_list.ensures ∙ ap Some (sym c.into_bits-bits.ensures.bits) in
    of_some (as_form t) c.into_bits-bits.result c.into_vec.result.items bits (λ e. let f : true ≡ false = sym (c.is_empty.ensures.1 e) ∙ c.if-is_empty.false in cc) c.into_vec.ensures.bits
