use Rattle.std.proofs.Common.{subst, ◌∙◌}
use Rattle.asn1_model.specs.Per
use Rattle.per_codec_packing.specs.FieldLists.{field_list_at}
use Rattle.per_codec_writing.specs.Writing.{Adds, place}
use Rattle.per_codec_writing.proofs.PaddingFieldLists.{adds_same}
use Rattle.per_codec_writing.proofs.NumberFieldLists.{unconstrained_field_list}
use Rattle.per_codec_rules.specs.Variants.{is_aligned}
use Rattle.per_codec_writing.proofs.integer.push_unconstrained.Goals as goal

pub returns-clause-written : goal.returns-clause-written
returns-clause-written g c =
    let v = g.I.IntegerType.value c.args.value.now in
    let old = c.args.output.now in
    let new = c.push_counted_octets.new.output in
    adds_same _ _ old new (unconstrained_field_list (is_aligned c.args.variant) v (place old))
    (subst (λ l. Adds (field_list_at (Per.counted_octets (is_aligned c.args.variant) l) (place old)) old new)
    (c.as_slice.ensures ∙ c.to_signed_bytes_be-octets.ensures.octets) c.in_ok-push_counted_octets.ensures)
