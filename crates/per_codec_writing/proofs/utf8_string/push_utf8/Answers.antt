use Rattle.std.proofs.Common.{subst}
use Rattle.asn1_model.specs.Per
use Rattle.asn1_schema_constraints.specs.Terms.{sizes_of, alphabet_of}
use Rattle.std.proofs.lemmas.Str.{is_utf8-from_IsUtf8}
use Rattle.per_codec_packing.specs.FieldLists.{field_list_at}
use Rattle.per_codec_writing.specs.Writing.{Adds, place}
use Rattle.per_codec_writing.proofs.PaddingFieldLists.{adds_same}
use Rattle.per_codec_writing.proofs.StringFieldLists.{utf8_field_list}
use Rattle.per_codec_rules.specs.Variants.{is_aligned}
use Rattle.per_codec_writing.proofs.utf8_string.push_utf8.Goals as goal

pub returns : goal.returns
returns c =
    let old = c.args.output.now in
    let new = c.push_counted_octets.new.output in
    let os = c.args.value.now in
    adds_same _ _ old new (utf8_field_list (is_aligned c.args.variant) (sizes_of c.args._constraints.now.size)
    (alphabet_of c.args._constraints.now.permitted_alphabet) os (place old) (is_utf8-from_IsUtf8 os c.utf8.value))
    (subst (λ l. Adds (field_list_at (Per.counted_octets (is_aligned c.args.variant) l) (place old)) old new) c.as_bytes.ensures.value c.in_ok-push_counted_octets.ensures)
