-- Types and values of components.
use Rattle.std.specs.Prelude.{◌≡◌, ◌≤◌, ℕ, true, ◌&&◌, ◌||◌, false}
use Rattle.asn1_model.specs.Value.{Value, Parts, depth, depth_of_parts}
use Rattle.asn1_model.specs.Schema.{Presence, by_default, Schema}
use Rattle.asn1_model.specs.Normal.{normal_parts}
use Rattle.asn1_model.specs.Tidy.{is_normal, has_normal_default, are_tidy}
use Rattle.asn1_model.specs.Lawful.{are_lawful, has_typed_default, are_no_components, are_groups_in_place}
use Rattle.asn1_schema_laws.specs.Presents.{Part, left_out, there, Fits, PartFits, PartsFit}
use Rattle.asn1_model.specs.Lawful.{is_of}
use Rattle.asn1_schema_laws.specs.Tables.{Fields, no_field, field, Table, components_at, IsValue}
use Rattle.asn1_schema_laws.specs.Parts.{normal_part}

-- The types of the components are well-formed, with defaults in normal form; groups are only among the additions, and
-- additions come only after an extension marker.
pub record AreTypes (t : Table) : Type 0 where
  pub lawful : (n : ℕ) → are_lawful (components_at n t.root) ≡ true
  pub tidy : (n : ℕ) → are_tidy (components_at n t.root) ≡ true
  pub no_group : (n : ℕ) → are_groups_in_place false (components_at n t.root) ≡ true
  pub lawful_additions : (n : ℕ) → are_lawful (components_at n t.additions) ≡ true
  pub tidy_additions : (n : ℕ) → are_tidy (components_at n t.additions) ≡ true
  pub optional_groups : (n : ℕ) → are_groups_in_place true (components_at n t.additions) ≡ true
  pub extensible : (n : ℕ) → (t.extensible || are_no_components (components_at n t.additions)) ≡ true

-- A default is a value of its type, in normal form, at each number of levels.
abbrev pub HasDefault : Presence → (ℕ → Schema) → Type 0
HasDefault o schema = (n : ℕ) → (has_typed_default (schema n) o && has_normal_default (schema n) o) ≡ true

-- A value is allowed as a default: it belongs to the type, satisfies its constraints, and has no component encoded at
-- its own default (X.680 25).
pub record IsDefault (schema : ℕ → Schema) (d : Value) : Type 0 where
  pub is_value : IsValue schema d
  pub typed : (n : ℕ) → is_of (schema n) d ≡ true
  pub spelled : (n : ℕ) → is_normal (schema n) d ≡ true

-- Each default of these components is allowed, and the further condition holds.
abbrev pub DefaultsThen : Fields → Type 0 → Type 0
DefaultsThen no_field rest = rest
DefaultsThen (field t (by_default d) s fs) rest = IsDefault s d × DefaultsThen fs rest
DefaultsThen (field t o s fs) rest = DefaultsThen fs rest

-- Each default of a table is allowed: one fact for each component with a default, in order.
abbrev pub AreDefaults : Table → Type 0
AreDefaults t = DefaultsThen t.root (DefaultsThen t.additions (Unit {0}))

-- The number of nested levels of a component.
abbrev pub part_depth : Part → ℕ
part_depth left_out = 0
part_depth (there v) = depth v

-- A component's value, present or absent, is of its type and in normal form.
pub record IsPart (o : Presence) (schema : ℕ → Schema) (x : Part) : Type 0 where
  pub fits : (n : ℕ) → part_depth x ≤ n → PartFits (λ v. Fits (schema n) v) o x
  pub normal : (n : ℕ) → normal_part o (schema n) x ≡ x

-- All components are of their types and in normal form.
pub record AreValues (t : Table) (ps qs : Parts) : Type 0 where
  pub fits : (n : ℕ) → depth_of_parts ps ≤ n → PartsFit (components_at n t.root) ps
  pub fits_added : (n : ℕ) → depth_of_parts qs ≤ n → PartsFit (components_at n t.additions) qs
  pub normal : (n : ℕ) → normal_parts (components_at n t.root) ps ≡ ps
  pub normal_added : (n : ℕ) → normal_parts (components_at n t.additions) qs ≡ qs
