-- Proofs that a type is well-formed, that values belong to it, and that they are encoded and decoded as its author
-- says.
use Rattle.std.proofs.Common.{◌≡◌}
pub use Rattle.std.proofs.Common.{refl, [], ◌∷◌, Some, None, true, false, pos, negsuc}
use Rattle.asn1_schema_tags.specs.Tags.{tag_of}
use Rattle.asn1_schema_tags.specs.Trees.{leaves_of}
use Rattle.asn1_schema_tags.specs.declared.tags.Tag.{Tag}
use Rattle.asn1_schema_tags.specs.declared.trees.TagTree.TheVariants.{Leaf}
use Rattle.asn1_schema_tags.proofs.TreeLaws.{leaves_leaf}
pub use Rattle.asn1_schema_constructed.proofs.Counting.{count_presence_bits}
pub use Rattle.asn1_schema_constructed.proofs.SetValues.{type_set, value_set}
pub use Rattle.asn1_schema_authored.proofs.ChoiceShaping.{choice_of, none, of_addition, of_root, one}
pub use Rattle.asn1_schema_authored.proofs.Shaping.{sequence_of, set_of}
pub use Rattle.asn1_schema_authored.proofs.Grouping.{group_of}
pub use Rattle.asn1_schema_authored.proofs.Defaults.{default_gains}
pub use Rattle.asn1_schema_authored.proofs.Fields.{gains_additions, gains_alternatives, gains_items, grown_field}
pub use Rattle.asn1_schema_authored.proofs.Fields.{no_fields, same_tags, sequence_extends, set_gains_additions}
pub use Rattle.asn1_schema_authored.proofs.Unfolding.{choice_unfolds, constant_unfolds, field_unfolds}
pub use Rattle.asn1_schema_authored.proofs.Unfolding.{no_fields_unfold, no_variants_unfold, sequence_unfolds, set_unfolds}
pub use Rattle.asn1_schema_authored.proofs.Unfolding.{variant_unfolds}
pub use Rattle.asn1_schema_authored.specs.Shapes.{sequence_tag, set_tag}
pub use Rattle.asn1_schema_constructed.proofs.Types.{more_variants, no_variants, type_choice, type_enumerated, value_choice}
pub use Rattle.asn1_schema_constructed.proofs.Types.{value_enumerated}
pub use Rattle.asn1_schema_decode.proofs.Failing.{failed_reads, passed_on}
pub use Rattle.asn1_schema_decode.proofs.Listing.{ReadsFrom, from_close, from_end, from_further, from_next}
pub use Rattle.asn1_schema_decode.proofs.Listing.{from_start, from_stuck, reads_list, unread_list, unread_list_here}
pub use Rattle.asn1_schema_decode.proofs.Reading.{reads_as, reads_constructed, reads_end, reads_field, reads_left_out}
pub use Rattle.asn1_schema_decode.proofs.Reading.{reads_required, reads_there, unread_as, unread_end, unread_field}
pub use Rattle.asn1_schema_decode.proofs.Reading.{unread_field_here, unread_presence_bit, unread_present, unread_required}
pub use Rattle.asn1_schema_decode.proofs.Reading.{unread_constructed, unread_constructed_here}
pub use Rattle.asn1_schema_encode.proofs.Going.{failed_before_part, failed_before_value, passed}
pub use Rattle.asn1_schema_encode.proofs.Writing.{cannot_as, cannot_constructed, cannot_constructed_here, cannot_end}
pub use Rattle.asn1_schema_encode.proofs.Writing.{cannot_field, cannot_field_here, cannot_required, writes_as}
pub use Rattle.asn1_schema_encode.proofs.Writing.{writes_constructed, writes_end, writes_field, writes_required}
pub use Rattle.asn1_schema_laws.proofs.Chains.{failed_before}
pub use Rattle.asn1_schema_laws.proofs.Defaults.{bit_string_default, boolean_default, character_string_default}
pub use Rattle.asn1_schema_laws.proofs.Defaults.{identifier_default, integer_default, null_default}
pub use Rattle.asn1_schema_laws.proofs.Defaults.{octet_string_default}
pub use Rattle.asn1_schema_laws.proofs.Joined.{raised}
pub use Rattle.asn1_schema_laws.proofs.Recursive.{part_absent, part_there, recursive_type, value_as}
pub use Rattle.asn1_schema_laws.proofs.TypesByKind.{bit_string_type, bit_string_value, boolean_type, boolean_value}
pub use Rattle.asn1_schema_laws.proofs.TypesByKind.{character_string_type, character_string_value}
pub use Rattle.asn1_schema_laws.proofs.TypesByKind.{identifier_type, identifier_value, integer_type, integer_value}
pub use Rattle.asn1_schema_laws.proofs.TypesByKind.{null_type, null_value, octet_string_type, octet_string_value}
pub use Rattle.asn1_schema_laws.proofs.TypesByKind.{type_list, value_list}
pub use Rattle.asn1_schema_laws.proofs.Values.{more_types, more_values, no_types, no_values, part_optional}
pub use Rattle.asn1_schema_laws.proofs.Values.{part_required, type_sequence, value_sequence}
pub use Rattle.asn1_schema_tags.proofs.Distinct.{one_number_of}
pub use Rattle.asn1_schema_tags.proofs.TreeLaws.{leaves_choice, leaves_leaf, own_tag_choice, own_tag_leaf}
pub use Rattle.asn1_schema_constructed.proofs.Types.{recursive_choice_type}
pub use Rattle.asn1_schema_constructed.proofs.ChoiceReading.{reads_begun, unread_begun, unread_begun_end, unread_begun_here}
pub use Rattle.asn1_schema_constructed.proofs.ChoiceWriting.{cannot_begun, cannot_begun_end, cannot_begun_here, writes_begun}

-- The leaves of a tree of two tags, such as that of a choice with two alternatives.
pub two_leaves : (a b : Tag) → leaves_of (Leaf a ∷ Leaf b ∷ []) ≡ tag_of a ∷ tag_of b ∷ []
two_leaves a b = rw (leaves_leaf a, leaves_leaf b) refl
