use Rattle.std.proofs.Common.{subst, sym}
use Rattle.asn1_model.specs.Per
use Rattle.asn1_values_identifiers.specs.Groups.{contents}
use Rattle.asn1_values_identifiers.proofs.Counts.{contents_octets}
use Rattle.per_codec_packing.specs.FieldLists.{field_list_at}
use Rattle.per_codec_writing.specs.Writing.{Adds, place}
use Rattle.per_codec_writing.proofs.IdentifierFieldLists.{short_counted}
use Rattle.per_codec_writing.proofs.PaddingFieldLists.{adds_same}
use Rattle.per_codec_writing.proofs.StringFieldLists.{identifier_field_list, one_arc}
use Rattle.per_codec_rules.specs.Variants.{is_aligned}
use Rattle.per_codec_writing.proofs.object_identifier.push_identifier.Goals as goal

pub returns : goal.returns
returns c =
    let al = is_aligned c.args.variant in
    let old = c.args.output.now in
    let mid = c.push_short_length.new.output in
    let new = c.push_contents.new.output in
    let first = c.in-Some.parts.0 in
    let others = c.in-Some.parts.1.now in
    adds_same _ _ old new (identifier_field_list al c.args.value.now (place old) c.in-Some.ensures.identifier)
    (subst (λ l. Adds (field_list_at (Per.counted_octets al l) (place old)) old new) (sym c.in-Some.ensures.octets)
    (short_counted al (contents first others) c.content_count-count.result old mid new (contents_octets first others) c.content_count-count.ensures
    c.if-count-ge-FRAGMENT.false c.in_ok-push_short_length.ensures c.in_ok-push_contents.ensures))

pub returns-in_default : goal.returns-in_default
returns-in_default c = one_arc (is_aligned c.args.variant) c.args.value.now (place c.args.output.now) c.in_default.ensures.none
