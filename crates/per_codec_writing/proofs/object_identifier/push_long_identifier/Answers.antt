use Rattle.std.proofs.Common.{rules, subst, ◌∙◌}
use Rattle.asn1_model.specs.Per
use Rattle.per_codec_packing.specs.FieldLists.{field_list_at}
use Rattle.per_codec_writing.specs.Writing.{Adds, place}
use Rattle.per_codec_writing.proofs.PaddingFieldLists.{adds_same}
use Rattle.per_codec_writing.proofs.StringFieldLists.{identifier_field_list, one_arc}
use Rattle.per_codec_rules.specs.Variants.{is_aligned}
use Rattle.per_codec_writing.proofs.object_identifier.push_long_identifier.Goals as goal

pub returns-in_ok-push_counted_octets-in-Ok : goal.returns-in_ok-push_counted_octets-in-Ok
returns-in_ok-push_counted_octets-in-Ok c =
    let old = c.args.output.now in
    let new = c.push_counted_octets.new.output in
    adds_same _ _ old new (identifier_field_list (is_aligned c.args.variant) c.args.value.now (place old) c.in-Ok.ensures.identifier)
    (subst (λ l. Adds (field_list_at (Per.counted_octets (is_aligned c.args.variant) l) (place old)) old new)
    (c.as_slice.ensures.value ∙ c.in-Ok.ensures.octets) c.in_ok-push_counted_octets-in-Ok.ensures)

pub returns-in-Err-Truncated : goal.returns-in-Err-Truncated
returns-in-Err-Truncated c = one_arc (is_aligned c.args.variant) c.args.value.now (place c.args.output.now) (c.oid_octets.ensures.truncated.0 (search rules))
