-- The components of an extension addition group, and those of a value.
use Rattle.std.specs.Prelude.{◌≡◌, ℕ, true}
use Rattle.asn1_model.specs.Lawful.{is_lawful}
use Rattle.asn1_model.specs.Tidy.{is_tidy}
use Rattle.asn1_model.specs.Value.{end, fields}
use Rattle.asn1_schema_laws.specs.Additions.{IsGroup}
use Rattle.asn1_schema_laws.specs.Tables.{Table, IsValue, sequence_type}
use Rattle.asn1_schema_authored.specs.Shapes.{Shape}

-- There is no extension marker, and at least one component. The group is well-formed as a SEQUENCE, and each value is
-- one of it.
pub record GroupShape (A : Type 0) : Type 0 where
  pub shape : Shape A
  pub plain : IsGroup shape.table
  pub lawful : (n : ℕ) → is_lawful (sequence_type shape.table n) ≡ true
  pub tidy : (n : ℕ) → is_tidy (sequence_type shape.table n) ≡ true
  pub each : (x : A) → IsValue (sequence_type shape.table) (fields (shape.root x) end)
  pub no_others : (x : A) → shape.added x ≡ end

abbrev pub shape_table : {A : Type 0} → Shape A → Table
shape_table s = s.table
