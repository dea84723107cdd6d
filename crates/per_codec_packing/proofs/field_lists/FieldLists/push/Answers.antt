use Rattle.std.proofs.Common.{[], ◌∷◌, ◌++◌, refl, ap, sym, ◌∙◌, append-nil, arith}
use Rattle.std.proofs.lemmas.Result.{err_from_is_err_and}
use Rattle.asn1_values_bits.specs.BitStr.{bits_of}
use Rattle.per_codec_packing.specs.Viewed.{field_list_of}
use Rattle.per_codec_packing.specs.declared.field_lists.Part.{Part}
use Rattle.per_codec_packing.proofs.Sharing.{still_parts, same_field_lists, more_parts, one_field_list_more}
use Rattle.per_codec_packing.proofs.field_lists.FieldLists.push.Goals as goal

pub invariant_of-self-in_err-push_paddings : goal.invariant_of-self-in_err-push_paddings
invariant_of-self-in_err-push_paddings c =
    let was = c.self.inside in
    still_parts was.bits (bits_of c.as_field_list-added.result.bits) c.extend_from_bitslice.new.self was.paddings.items []
    c.push_paddings.new.all.items was.parts.items was.parts.items c.self.invariant
    c.in_ok-extend_from_bitslice.ensures.ok (c.in_err-push_paddings.ensures.err ∙ sym (append-nil was.paddings.items)) refl

pub returns-in_err-push_paddings-clause-err : goal.returns-in_err-push_paddings-clause-err
returns-in_err-push_paddings-clause-err c =
    let was = c.self.inside in
    let exit = err_from_is_err_and c.from_residual-in_err-push_paddings.result c.from_residual-in_err-push_paddings.ensures.1 in
    rw exit.1 (same_field_lists was.bits (bits_of c.as_field_list-added.result.bits) c.extend_from_bitslice.new.self was.paddings.items []
    c.push_paddings.new.all.items was.parts.items was.parts.items c.self.invariant
    c.in_ok-extend_from_bitslice.ensures.ok (c.in_err-push_paddings.ensures.err ∙ sym (append-nil was.paddings.items)) refl ∙ c.self.view_is)

pub invariant_of-self-in_err-push : goal.invariant_of-self-in_err-push
invariant_of-self-in_err-push c =
    let was = c.self.inside in
    let added = c.as_field_list-added.result in
    still_parts was.bits (bits_of added.bits) c.extend_from_bitslice.new.self was.paddings.items added.paddings.now c.push_paddings.new.all.items was.parts.items c.push.new.self.items c.self.invariant
    c.in_ok-extend_from_bitslice.ensures.ok c.in_ok-push_paddings.ensures.ok c.in_err-push.ensures.items

pub returns-in_err-push-clause-err : goal.returns-in_err-push-clause-err
returns-in_err-push-clause-err c =
    let was = c.self.inside in
    let added = c.as_field_list-added.result in
    let exit = err_from_is_err_and c.from_residual-in_err-push.result c.from_residual-in_err-push.ensures.1 in
    rw exit.1 (same_field_lists was.bits (bits_of added.bits) c.extend_from_bitslice.new.self was.paddings.items added.paddings.now
    c.push_paddings.new.all.items was.parts.items c.push.new.self.items c.self.invariant
    c.in_ok-extend_from_bitslice.ensures.ok c.in_ok-push_paddings.ensures.ok c.in_err-push.ensures.items ∙ c.self.view_is)

pub invariant_of-self-2 : goal.invariant_of-self-2
invariant_of-self-2 c =
    let was = c.self.inside in
    let added = c.as_field_list-added.result in
    let part : Part = record { bits = record { from = c.len-first_bit.result; to = c.len.result }; paddings = record { from = c.len-first_padding.result; to = c.len-2.result } } in
    more_parts was.bits (bits_of added.bits) c.extend_from_bitslice.new.self was.paddings.items added.paddings.now c.push_paddings.new.all.items was.parts.items c.push.new.self.items c.self.invariant
    c.in_ok-extend_from_bitslice.ensures.ok c.in_ok-push_paddings.ensures.ok part c.in_ok-push.ensures.items
    c.len-first_bit.ensures c.len.ensures (omega (arith, c.len-first_padding.ensures, was.paddings.ok.0)) (omega (arith, c.len-2.ensures, c.push_paddings.new.all.ok.0)) added.ascend

pub returns-clause-ok : goal.returns-clause-ok
unfolding field_list_of
returns-clause-ok c =
    let was = c.self.inside in
    let added = c.as_field_list-added.result in
    let part : Part = record { bits = record { from = c.len-first_bit.result; to = c.len.result }; paddings = record { from = c.len-first_padding.result; to = c.len-2.result } } in
    one_field_list_more was.bits (bits_of added.bits) c.extend_from_bitslice.new.self was.paddings.items added.paddings.now
    c.push_paddings.new.all.items was.parts.items c.push.new.self.items c.self.invariant
    c.in_ok-extend_from_bitslice.ensures.ok c.in_ok-push_paddings.ensures.ok part c.in_ok-push.ensures.items
    c.len-first_bit.ensures c.len.ensures (omega (arith, c.len-first_padding.ensures, was.paddings.ok.0)) (omega (arith, c.len-2.ensures, c.push_paddings.new.all.ok.0))
    ∙ ap (λ l. l ++ field_list_of added ∷ []) c.self.view_is ∙ ap (λ t. c.args.self.now ++ t ∷ []) c.as_field_list-added.ensures
