-- What is written of the records of a value, in sets of rules that share one encoder.
use Rattle.std.specs.Prelude.{◌≡◌, ℕ, List, Some}
use Rattle.asn1_model.specs.Rules.{Rules}
use Rattle.asn1_model.specs.Schema.{Schema}
use Rattle.asn1_model.specs.Value.{Value}
use Rattle.asn1_schema_encode.specs.Written.{IsWrittenIn, NotWrittenIn}
use Rattle.asn1_schema_errors.specs.declared.EncodeError.{EncodeError}
use Rattle.asn1_schema_laws.specs.Presents.{presents}
use Rattle.asn1_schema_laws.specs.Records.{Record}
use Rattle.asn1_schema_laws.specs.Tables.{IsValue}

-- Of whatever value of whatever type these are the records, these octets are its canonical encoding.
pub record EncodedIn (rules : List Rules) (records : List Record) (octets : List ℕ) : Type 0 where
  pub encoded : (s : Schema) (v : Value) → IsValue (λ _. s) v → records ≡ presents s v
      → IsWrittenIn rules (λ _. s) v (Some octets)

-- Why it is not written.
pub record NotEncodedIn (rules : List Rules) (records : List Record) (e : EncodeError) : Type 0 where
  pub none : (s : Schema) (v : Value) → IsValue (λ _. s) v → records ≡ presents s v
      → NotWrittenIn rules (λ _. s) v e
