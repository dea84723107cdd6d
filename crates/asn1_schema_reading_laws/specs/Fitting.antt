-- The records that a reader finds, and the form of a value.
use Rattle.asn1_model.specs.Schema.{Schema}
use Rattle.asn1_model.specs.Value.{Value}
use Rattle.asn1_schema_laws.specs.Records.{Record}
use Rattle.asn1_schema_laws.specs.Presents.{presents, Fits}
use Rattle.asn1_schema_laws.specs.Chains.{Chain}

-- If the records of a value come next, it has the form of its type.
abbrev pub RecordsFit : {S : Type 0} → (S → Record → S → Type 0) → Type 0
RecordsFit {S} step = (s : Schema) (v : Value) (a b : S) → Chain step (presents s v) a b → Fits s v
