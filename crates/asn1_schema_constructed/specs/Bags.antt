-- SET OF (X.680 28).
use Rattle.std.specs.Prelude.{ℕ}
use Rattle.asn1_model.specs.Schema.{Schema}
use Rattle.asn1_schema_constraints.specs.Bounds.{members_of}
use Rattle.asn1_schema_constraints.specs.Terms.{sizes_of}
use Rattle.asn1_schema_constraints.specs.declared.bounds.Bounded.{Bounded}
use Rattle.asn1_schema_constraints.specs.declared.lists.Constraints.{Constraints}
use Rattle.asn1_schema_laws.specs.Tables.{bag_type}

-- As `bag_type`, under the constraints of a Rust type.
abbrev pub bag_under : Constraints → Bounded ℕ → (ℕ → Schema) → ℕ → Schema
bag_under c held s = bag_type (sizes_of c.size) (members_of held) s
