-- Laws of extension additions and groups.
use Rattle.std.specs.Prelude.{◌≡◌, ℕ, true, Some}
use Rattle.asn1_model.specs.Value.{Parts, fields, end}
use Rattle.asn1_model.specs.Schema.{optional}
use Rattle.asn1_model.specs.Lawful.{is_lawful}
use Rattle.asn1_model.specs.Tidy.{is_tidy}
use Rattle.asn1_schema_laws.specs.Tables.{Fields, Table, field_tags, sequence_type, IsValue}
use Rattle.asn1_schema_laws.specs.Typed.{AreTypes, AreValues, IsPart}
use Rattle.asn1_schema_laws.specs.Additions.{extensible_table, AreAdditionTypes, AreAdditionValues, IsAddition}
use Rattle.asn1_schema_laws.specs.Additions.{IsGroup, group_type, group_part}

-- Types that are allowed as additions form a table with an extension marker.
abbrev pub AdditionsAreTyped : Type 0
AdditionsAreTyped = (fs : Fields) → AreAdditionTypes fs → AreTypes (extensible_table fs)

-- Values of additions are values of that table.
abbrev pub AdditionsAreValued : Type 0
AdditionsAreValued = (fs : Fields) (qs : Parts) → AreAdditionValues fs qs → AreValues (extensible_table fs) end qs

-- The components of a well-formed SEQUENCE without an extension marker, at least one, whose defaults are in normal
-- form, form a group that is allowed among additions.
abbrev pub GroupsAreTyped : Type 0
GroupsAreTyped =
    (t : Table) → IsGroup t
    → ((n : ℕ) → is_lawful (sequence_type t n) ≡ true) → ((n : ℕ) → is_tidy (sequence_type t n) ≡ true)
    → IsAddition (field_tags t.root) optional (group_type t)

-- A value of such a SEQUENCE is a value of the group, which is absent if all its components are.
abbrev pub GroupsAreValued : Type 0
GroupsAreValued = (t : Table) (ps : Parts) → IsGroup t → IsValue (sequence_type t) (fields ps end)
    → IsPart optional (group_type t) (group_part (λ (x : Parts). x) (Some ps))
