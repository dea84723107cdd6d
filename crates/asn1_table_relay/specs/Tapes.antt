-- Which value a tape stands for.
use Rattle.std.specs.Prelude.{◌≡◌, List}
use Rattle.asn1_model.specs.Schema.{Schema}
use Rattle.asn1_model.specs.Value.{Value}
use Rattle.asn1_schema_laws.specs.Presents.{presents}
use Rattle.asn1_schema_laws.specs.Records.{Record}
use Rattle.asn1_schema_laws.specs.Tables.{IsValue}

-- The records on it are those of this value, which is one of the type.
pub record StandsFor (s : Schema) (records : List Record) (v : Value) : Type 0 where
  pub is_value : IsValue (λ _. s) v
  pub kept : records ≡ presents s v
