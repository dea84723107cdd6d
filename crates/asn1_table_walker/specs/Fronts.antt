-- What is read from the front of an input by a table of types.
use Rattle.std.specs.Prelude.{◌≡◌, ℕ, List}
use Rattle.asn1_model.specs.Rules.{Rules}
use Rattle.asn1_model.specs.Schema.{Schema}
use Rattle.asn1_model.specs.Value.{Value}
use Rattle.asn1_schema_decode.specs.Messages.{Tells}
use Rattle.asn1_schema_laws.specs.Presents.{presents}
use Rattle.asn1_schema_laws.specs.Records.{Record}
use Rattle.asn1_schema_laws.specs.Tables.{IsValue}

-- A message stands in front, and these are the records of the normal form of its value.
pub record TellsOnto (r : Rules) (s : Schema) (records : List Record) (input rest : List ℕ) : Type 0 where
  pub value : Value
  pub is_value : IsValue (λ _. s) value
  pub tells : Tells r (λ _. s) value input rest
  pub kept : records ≡ presents s value
