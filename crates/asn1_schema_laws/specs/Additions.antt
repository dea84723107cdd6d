-- Extension additions, and groups of them (X.680 25).
use Rattle.std.specs.Prelude.{◌≡◌, ◌≤◌, ℕ, suc, true, false, not, ◌||◌, List, Option, Some, None}
use Rattle.asn1_model.specs.Value.{Parts, fields, end, are_absent, depth_of_parts}
use Rattle.asn1_model.specs.Schema.{Tag, Presence, Schema, group}
use Rattle.asn1_model.specs.Normal.{normal_parts}
use Rattle.asn1_model.specs.Tidy.{is_tidy, are_tidy}
use Rattle.asn1_model.specs.Lawful.{is_lawful, are_lawful, is_group, is_optional, are_tags, are_groups_in_place}
use Rattle.asn1_model.specs.Lawful.{are_tags_of}
use Rattle.asn1_schema_laws.specs.Presents.{Part, left_out, PartsFit}
use Rattle.asn1_schema_laws.specs.Parts.{part_unless}
use Rattle.asn1_schema_laws.specs.Tables.{Fields, no_field, field, Table, components_at, field_tags}
use Rattle.asn1_schema_laws.specs.Tables.{scope}
use Rattle.asn1_schema_laws.specs.Typed.{DefaultsThen}

-- The number of additions.
abbrev pub addition_count : Fields → ℕ
addition_count no_field = 0
addition_count (field t o s fs) = suc (addition_count fs)

-- The additions, which follow the root components of a type with an extension marker.
abbrev pub extensible_table : Fields → Table
extensible_table fs = record { root = no_field; extensible = true; additions = fs }

-- Each default of these additions is allowed.
abbrev pub HaveDefaults : Fields → Type 0
HaveDefaults fs = DefaultsThen fs (Unit {0})

-- A type is allowed as an addition: it is well-formed, and a group is optional.
pub record IsAddition (tags : List Tag) (o : Presence) (schema : ℕ → Schema) : Type 0 where
  pub tagged : (n : ℕ) → are_tags_of tags (schema n) ≡ true
  pub lawful : (n : ℕ) → is_lawful (schema n) ≡ true
  pub tidy : (n : ℕ) → is_tidy (schema n) ≡ true
  pub optional_group : (n : ℕ) → (not (is_group (schema n)) || is_optional o) ≡ true

-- The types of all additions are allowed.
pub record AreAdditionTypes (fs : Fields) : Type 0 where
  pub lawful : (n : ℕ) → are_lawful (components_at n fs) ≡ true
  pub tidy : (n : ℕ) → are_tidy (components_at n fs) ≡ true
  pub optional_groups : (n : ℕ) → are_groups_in_place true (components_at n fs) ≡ true

-- The parts are of these types, and in normal form.
pub record AreAdditionValues (fs : Fields) (qs : Parts) : Type 0 where
  pub fits : (n : ℕ) → depth_of_parts qs ≤ n → PartsFit (components_at n fs) qs
  pub normal : (n : ℕ) → normal_parts (components_at n fs) qs ≡ qs

-- A group of additions (X.680 25.1): its components, one level deeper.
unfoldable pub group_type : Table → ℕ → Schema
group_type t n = scope n (λ m. group (components_at m t.root))

-- A table may be that of a group: it has no extension marker, and at least one component.
pub record IsGroup (t : Table) : Type 0 where
  pub not_extensible : t.extensible ≡ false
  pub no_additions : t.additions ≡ no_field
  pub tagged : are_tags (field_tags t.root) ≡ true

-- A group as an addition: one with nothing left in it is absent, by this project's choice.
abbrev pub group_part : {A : Type 0} → (A → Parts) → Option A → Part
group_part root None = left_out
group_part root (Some x) = part_unless (are_absent (root x)) (fields (root x) end)
