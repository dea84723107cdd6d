-- The message with which an input begins, and the value that it encodes.
use Rattle.std.specs.Prelude.{◌≡◌, ◌≤◌, ◌<◌, ℕ, true, List, ◌++◌, length}
use Rattle.asn1_model.specs.Value.{Value, same, depth}
use Rattle.asn1_model.specs.Schema.{Schema}
use Rattle.asn1_model.specs.Lawful.{IsLawful}
use Rattle.asn1_model.specs.Normal.{normal}
use Rattle.asn1_model.specs.Rules.{Rules, IsEncoding}
use Rattle.asn1_schema_errors.specs.declared.DecodeError.{DecodeError}
use Rattle.asn1_schema_errors.specs.declared.DecodeError.TheVariants.{OutOfMemory}

-- The input is an encoding of the value, followed by the rest. The value has at most 128 nested levels.
pub record HasMessage (r : Rules) (s : Schema) (v : Value) (input rest : List ℕ) : Type 0 where
  pub message : List ℕ
  pub in_front : message ++ rest ≡ input
  pub encoding : IsEncoding r s v message
  pub levels : depth v ≤ 128

-- The input begins with a message, and v is the normal form of its value.
pub record Tells (r : Rules) (schema : ℕ → Schema) (v : Value) (input rest : List ℕ) : Type 0 where
  pub raw : Value
  pub message : HasMessage r (schema 128) raw input rest
  pub means : normal (schema 128) raw ≡ v

-- Why no value is read: memory ran out, or the input does not begin with a message.
pub record NoMessage (r : Rules) (schema : ℕ → Schema) (input : List ℕ) (e : DecodeError) : Type 0 where
  pub none : ¬ (e ≡ OutOfMemory) → (v : Value) (rest : List ℕ) → HasMessage r (schema 128) v input rest → ⊥

-- The input does not begin with a message, and still does not with fewer than n octets appended.
abbrev pub NeedsMore : Rules → (ℕ → Schema) → List ℕ → ℕ → DecodeError → Type 0
NeedsMore r schema input n e = (more : List ℕ) → length more < n → NoMessage r schema (input ++ more) e

-- An input begins with a message of at most one value of a well-formed type, up to the order of the elements of each
-- SET OF, and the rest after the message is unique.
abbrev pub OneMessageIn : Rules → Type 0
OneMessageIn r = (schema : ℕ → Schema) (v w : Value) (input x y : List ℕ) → IsLawful (schema 128)
    → Tells r schema v input x → Tells r schema w input y → (same v w ≡ true) × (x ≡ y)
