-- Building blocks of a type's schema, unfolded to any number of nested levels.
use Rattle.std.specs.Prelude.{◌≡◌, ◌≤◌, ℕ, zero, suc, Bool, true, false, cond, ◌&&◌, List, [], ◌∷◌, ◌++◌}
use Rattle.asn1_model.specs.Value.{Value, depth}
use Rattle.asn1_model.specs.Schema.{Tag, Size, Counts, Presence, Schema, cut, sequence_of, set_of, sequence}
use Rattle.asn1_model.specs.Schema.{Components, no_component, component}
use Rattle.asn1_model.specs.Normal.{normal}
use Rattle.asn1_model.specs.Tidy.{is_tidy}
use Rattle.asn1_model.specs.Lawful.{is_lawful, is_group, is_tag, tag_same, are_tags, are_tags_of}
use Rattle.asn1_model.specs.Normal.{is_required}
use Rattle.asn1_schema_laws.specs.Presents.{Fits}
use lib.Pointwise.{pointwise}

-- SEQUENCE OF, SET OF, SEQUENCE, SET and CHOICE take one of the n levels.
unfoldable pub scope : ℕ → (ℕ → Schema) → Schema
scope zero inside = cut
scope (suc n) inside = inside n

-- Components, each with its tags, its presence, and its type at each number of levels.
pub data Fields : Type 0 where
  no_field : Fields
  field : List Tag → Presence → (ℕ → Schema) → Fields → Fields

-- The components at a number of levels.
unfoldable pub components_at : ℕ → Fields → Components
components_at n no_field = no_component
components_at n (field t o s fs) = component t o (s n) (components_at n fs)

-- The components of a SEQUENCE: root components, whether there is an extension marker, and the additions (X.680 25).
pub record Table : Type 0 where
  pub root : Fields
  pub extensible : Bool
  pub additions : Fields

-- A table without an extension marker and without components.
abbrev pub no_table : Table
no_table = record { root = no_field; extensible = false; additions = no_field }

-- A table with one more component, at the start.
abbrev pub with_field : List Tag → Presence → (ℕ → Schema) → Table → Table
with_field t o s table = record {
  root = field t o s table.root;
  extensible = table.extensible;
  additions =
      table.additions;
}

-- The number of components that may be absent.
abbrev pub optional_field_count : Fields → ℕ
optional_field_count no_field = 0
optional_field_count (field t o s fs) = cond (is_required o) (optional_field_count fs) (suc (optional_field_count fs))

-- The tags of all components.
abbrev pub field_tags : Fields → List Tag
field_tags no_field = []
field_tags (field t o s fs) = t ++ field_tags fs

-- SEQUENCE (X.680 25).
unfoldable pub sequence_type : Table → ℕ → Schema
sequence_type t n = scope n (λ m. sequence (components_at m t.root) t.extensible (components_at m t.additions))

-- SEQUENCE OF elements of this type (X.680 26), under a size constraint; the Counts bound the number of elements that
-- the user-defined type can hold.
unfoldable pub list_type : Size → Counts → (ℕ → Schema) → ℕ → Schema
list_type z h s n = scope n (λ m. sequence_of z h (s m))

-- SET OF elements of this type (X.680 28), as `list_type`.
unfoldable pub bag_type : Size → Counts → (ℕ → Schema) → ℕ → Schema
bag_type z h s n = scope n (λ m. set_of z h (s m))

-- One tag, of one of the four classes (X.680 8.1).
abbrev pub is_one_tag : List Tag → Bool
is_one_tag (t ∷ []) = is_tag t
is_one_tag ts = false

-- One tag, or those of all alternatives of a CHOICE (X.680 29).
abbrev pub are_choice_tags : List Tag → List Tag → Bool
are_choice_tags (t ∷ []) all = is_tag t
are_choice_tags ts all = are_tags ts && pointwise tag_same ts all

-- A type may begin with these tags, and at each number of levels it is well-formed, has defaults in normal form, and
-- is not a group of additions.
pub record IsType (tags : List Tag) (schema : ℕ → Schema) : Type 0 where
  pub tagged : (n : ℕ) → are_tags_of tags (schema n) ≡ true
  pub lawful : (n : ℕ) → is_lawful (schema n) ≡ true
  pub tidy : (n : ℕ) → is_tidy (schema n) ≡ true
  pub no_group : (n : ℕ) → is_group (schema n) ≡ false

-- A value belongs to the type: it has its form at every unfolding to at least the value's nested levels, and is in
-- normal form.
pub record IsValue (schema : ℕ → Schema) (v : Value) : Type 0 where
  pub fits : (n : ℕ) → depth v ≤ n → Fits (schema n) v
  pub normal : (n : ℕ) → normal (schema n) v ≡ v
