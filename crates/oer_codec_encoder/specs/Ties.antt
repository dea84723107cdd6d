-- The bridge: the records of a value append its canonical octets, and append nothing exactly if it has none.
use Rattle.std.specs.Prelude.{◌≡◌, ◌↔◌, ℕ, List, ◌++◌, Some, option_and_then}
use Rattle.asn1_model.specs.Schema.{Schema}
use Rattle.asn1_model.specs.Value.{Value}
use Rattle.asn1_model.specs.Form.{written}
use Rattle.asn1_model.specs.Oer
use Rattle.asn1_schema_laws.specs.Records.{Record}
use Rattle.asn1_schema_laws.specs.Presents.{presents}
use Rattle.asn1_schema_laws.specs.Chains.{Chain}
use Rattle.oer_codec_encoder.specs.Steps.{Scope, State, Step, runs}

-- whatever follows, and at every position: none of these forms depends on it
abbrev pub BridgesAt : Schema → Value → Type 0
BridgesAt s v = (p : ℕ) (os : List ℕ) (k : List Scope) (rest : List Record) → runs (presents s v ++ rest) (os, k)
    ≡ option_and_then (λ w. runs rest (os ++ w, k)) (written (Oer.form s v) p)

abbrev pub Bridges : Schema → Type 0
Bridges s = (v : Value) → BridgesAt s v

-- the records of a value of any type add its octets
abbrev pub EveryTypeBridges : Type 0
EveryTypeBridges = (s : Schema) → Bridges s

-- a chain of steps by them does exactly that
abbrev pub ChainsAddTheOctets : Type 0
ChainsAddTheOctets = (s : Schema) (v : Value) (os : List ℕ) (k : List Scope) (new : State)
    → Chain Step (presents s v) (os, k) new ↔ ((w : List ℕ) × (written (Oer.form s v) 0 ≡ Some w)
    × (new ≡ (os ++ w, k)))
