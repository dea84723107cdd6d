-- SET (X.680 27): the same components as a SEQUENCE, in ascending order of their tags.
use Rattle.std.specs.Prelude.{ℕ, List, [], ◌∷◌}
use Rattle.asn1_model.specs.Schema.{Tag, Schema}
use Rattle.asn1_model.specs.Lawful.{smallest}
use Rattle.asn1_schema_laws.specs.Tables.{Fields, no_field, field, Table}
use Rattle.asn1_schema_laws.specs.Forms.{set_form, constructed_type}

-- SET of these components.
abbrev pub set_type : Table → ℕ → Schema
set_type t n = constructed_type set_form t n

-- The smallest tag of each component: an untagged CHOICE is ordered by it (X.680 27, X.691 21).
abbrev pub field_places : Fields → List Tag
field_places no_field = []
field_places (field [] o s fs) = field_places fs
field_places (field (t ∷ ts) o s fs) = smallest t ts ∷ field_places fs
