-- The types of message, as types of the model.
use Rattle.std.specs.Prelude.{pos, [], ◌∷◌, None, true, false}
use Rattle.asn1_model.specs.Schema.{Schema, by_default, required, boolean, null, enumerated, bit_string}
use Rattle.asn1_model.specs.Schema.{character_string, visible, sequence_of, sequence, no_component, any_size}
use Rattle.asn1_model.specs.Schema.{context}
use Rattle.asn1_model.specs.Value.{Value, absent, end}
use Rattle.asn1_schema_types.specs.Counts.{any_number_held}
use Rattle.asn1_relay_types.specs.Defaults.{true_and}
use Rattle.asn1_relay_types.specs.Schemas.{behind_flag, one_more, universal}
use Rattle.asn1_relay_types.specs.Schemas.{integer_schema, small_schema, octets_schema, pair_schema, set_schema}
use Rattle.asn1_relay_types.specs.Schemas.{bag_schema, nest_schema, new_schema, old_schema, group_schema}
use Rattle.asn1_relay_command.specs.declared.order.Kind.{Kind}
use Rattle.asn1_relay_command.specs.declared.order.Kind.TheVariants as kind
use Rattle.asn1_relay_command.specs.declared.order.Pair.{Pair}
use Rattle.asn1_relay_command.specs.declared.order.Pair.TheVariants as pair

-- The type with a name, unfolded to 128 nested levels if it is recursive.
abbrev pub schema_named : Kind → Schema
schema_named kind.Bool = boolean
schema_named kind.Small = small_schema
schema_named kind.Pair = pair_schema
schema_named kind.Integer = integer_schema
schema_named kind.Bits = bit_string any_size (record { low = 0; high = None })
schema_named kind.Octets = octets_schema 128
schema_named kind.Visible = character_string visible any_size (record { characters = None; extensible = false })
    (record { low = 0; high = None })
schema_named kind.Null = null
schema_named kind.Nulls = sequence_of any_size any_number_held null
schema_named kind.Set = set_schema
schema_named kind.Bag = bag_schema
schema_named kind.Nest = nest_schema 128
schema_named kind.New = new_schema
schema_named kind.Old = old_schema
schema_named kind.Group = group_schema

-- ---- pairs of versions

-- SEQUENCE {s S DEFAULT value}
abbrev pub defaulted : Schema → Value → Schema
defaulted s value = sequence (one_more (universal 16) (by_default value) s no_component) false no_component

-- The older version of a pair,
abbrev pub older_named : Pair → Schema
older_named pair.Plain = old_schema
older_named pair.Default = defaulted old_schema (true_and end)
older_named pair.Required = old_schema
older_named pair.Colour = enumerated (pos 0 ∷ []) true []

-- and the newer one.
abbrev pub newer_named : Pair → Schema
newer_named pair.Plain = new_schema
newer_named pair.Default = defaulted new_schema (true_and (absent end))
newer_named pair.Required = behind_flag (one_more (context 1) required boolean no_component)
newer_named pair.Colour = enumerated (pos 0 ∷ []) true (pos 1 ∷ [])
