-- What the author of a type names: values and types of the model, tables, the meaning of constraints, and what a codec
-- is given of a type's values. It is defined in the packages that this one re-exports.
unfoldable pub use Rattle.asn1_model.specs.Lawful.{is_lawful}
pub use Rattle.asn1_model.specs.Numbers.{is_count_within}
pub use Rattle.asn1_model.specs.Schema.{Schema, Tag, cut, enumerated, integer, optional, required, utf8}
pub use Rattle.asn1_model.specs.Schema.{any_count, any_size}
pub use Rattle.asn1_model.specs.Types.{context}
pub use Rattle.asn1_model.specs.Value.{Parts, Value, Values, absent, arcs, bit_list, end, fields, item, member}
pub use Rattle.asn1_model.specs.Value.{members, no_more}
pub use Rattle.asn1_model.specs.Value.{nothing, number, octet_list, present, text, truth}
pub use Rattle.asn1_schema_constraints.specs.Terms.{Meant, bounded_by, from_to, meant, no_constraint, sized}
pub use Rattle.asn1_schema_constraints.specs.Terms.{integer_under}
pub use Rattle.asn1_schema_constraints.specs.Terms.{bit_string_under, character_string_under, octet_string_under}
pub use Rattle.asn1_schema_constructed.specs.Chosen.{chosen_value}
pub use Rattle.asn1_schema_constructed.specs.Constructed.{fields_of, sequence_tags}
pub use Rattle.asn1_schema_constructed.specs.Sets.{set_type}
pub use Rattle.asn1_schema_authored.specs.Shapes.{IsHeading, Shape, shape_through}
pub use Rattle.asn1_schema_constructed.specs.Tables.{no_variant, variant}
unfoldable pub use Rattle.asn1_schema_constructed.specs.Tables.{choice_type}
pub use Rattle.asn1_schema_decode.specs.Reads.{Reads, Unread}
pub use Rattle.asn1_schema_laws.specs.Forms.{sequence_form, set_form}
pub use Rattle.asn1_schema_laws.specs.Parts.{part_of, values_of}
pub use Rattle.asn1_schema_laws.specs.Presents.{Part, left_out, there, with_part}
unfoldable pub use Rattle.asn1_schema_laws.specs.Recursive.{recursive_sequence}
pub use Rattle.asn1_schema_laws.specs.Tables.{IsType, IsValue, Table, no_field, no_table, with_field}
unfoldable pub use Rattle.asn1_schema_laws.specs.Tables.{components_at, list_type, scope, sequence_type}
pub use Rattle.asn1_schema_laws.specs.Typed.{IsPart}
pub use Rattle.asn1_schema_types.specs.Counts.{any_number_held, fixed_to}
unfoldable pub use Rattle.asn1_model.specs.Tidy.{is_tidy}
pub use Rattle.asn1_model.specs.Value.{chosen}
pub use Rattle.asn1_model.specs.Schema.{null}
pub use Rattle.asn1_schema_tags.specs.declared.chosen.Chosen.{Chosen}
unfoldable pub use Rattle.asn1_schema_constructed.specs.Tables.{alternatives_at}
pub use Rattle.asn1_schema_constructed.specs.Tables.{Choices}
pub use Rattle.asn1_schema_constructed.specs.Chosen.{IsAmong}
unfoldable pub use Rattle.asn1_schema_constructed.specs.Recursive.{recursive_choice}
