-- Properties of tables of fields.
use Rattle.std.specs.Prelude.{Bool, true, false, List, map, filter}
use Rattle.asn1_model.specs.Schema.{Tag as ModelTag}
use Rattle.asn1_model.specs.Lawful.{tag_less, smallest, are_ascending}
use Rattle.asn1_schema_tags.specs.Trees.{leaves, greatest_tag}
use Rattle.asn1_schema_constructed.specs.declared.tables.FieldPresence.{FieldPresence}
use Rattle.asn1_schema_constructed.specs.declared.tables.FieldPresence.TheVariants.{Required, Optional, Default}
use Rattle.asn1_schema_constructed.specs.declared.tables.Field.{Field}
use Rattle.asn1_schema_constructed.specs.declared.tables.OptionalAndDefaultFields.{OptionalAndDefaultFields}

-- Whether a field may be absent (X.680 25).
abbrev pub may_be_absent : FieldPresence → Bool
may_be_absent Required = false
may_be_absent Optional = true
may_be_absent Default = true

-- Whether a field is OPTIONAL or has a DEFAULT (X.680 25).
abbrev pub is_optional : Field → Bool
is_optional f = may_be_absent f.presence

-- The smallest tag of a field, by which the components of a SET are ordered (X.680 8.6).
abbrev pub place : Field → ModelTag
place f = smallest greatest_tag (leaves f.tag_tree)

-- The fields' smallest tags ascend strictly (X.680 8.6).
abbrev pub is_in_order : List Field → Bool
is_in_order fs = are_ascending tag_less (map place fs)

-- The fields that may be absent among those that were not yet visited.
abbrev pub optional_rest : OptionalAndDefaultFields → List Field
optional_rest s = filter is_optional s.rest.now
