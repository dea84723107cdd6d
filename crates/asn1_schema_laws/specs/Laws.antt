-- The law that records determine a value.
use Rattle.std.specs.Prelude.{◌≡◌}
use Rattle.asn1_model.specs.Schema.{Schema}
use Rattle.asn1_model.specs.Value.{Value}
use Rattle.asn1_schema_laws.specs.Records.{Record}
use Rattle.asn1_schema_laws.specs.Presents.{presents, Fits}
use Rattle.asn1_schema_laws.specs.Chains.{Chain}

-- From a state, the records of at most one value of a type come next, and one state follows them.
abbrev pub OneValue : {S : Type 0} → (S → Record → S → Type 0) → Type 0
OneValue {S} step = (s : Schema) (v w : Value) (a b c : S) → Fits s v → Fits s w → Chain step (presents s v) a b
    → Chain step (presents s w) a c → (v ≡ w) × (b ≡ c)
