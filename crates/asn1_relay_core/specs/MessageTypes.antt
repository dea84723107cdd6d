-- What is read and written through a type of messages, in one set of rules.
use Rattle.std.specs.Prelude.{ℕ, List, Option, Some}
use Rattle.asn1_model.specs.Schema.{Schema}
use Rattle.asn1_model.specs.Value.{Value}
use Rattle.asn1_model.specs.Rules.{Rules}
use Rattle.asn1_schema_decode.specs.Messages.{Tells}
use Rattle.asn1_schema_errors.specs.declared.EncodeError.{EncodeError}
use Rattle.asn1_relay_core.specs.Coding.{IsWritten, NotWritten}
use Rattle.asn1_relay_core.specs.Relaying.{Relaying}

-- The input begins with a message, and what was read means the normal form of its value.
pub record TellsAs (r : Rules) (schema : ℕ → Schema) (Means : Value → Type 0) (input rest : List ℕ) : Type 0 where
  pub value : Value
  pub means : Means value
  pub tells : Tells r schema value input rest

-- Of each value that was meant, this is the canonical encoding, or there is none.
abbrev pub IsWrittenAs : Rules → (ℕ → Schema) → (Value → Type 0) → Option (List ℕ) → Type 0
IsWrittenAs r schema Means w = (v : Value) → Means v → IsWritten r schema v w

-- These octets are it.
pub record WrittenAs (r : Rules) (schema : ℕ → Schema) (Means : Value → Type 0) (octets : List ℕ) : Type 0 where
  pub written : IsWrittenAs r schema Means (Some octets)

-- Why no value that was meant is written.
pub record NotWrittenAs (r : Rules) (schema : ℕ → Schema) (Means : Value → Type 0) (e : EncodeError) : Type 0 where
  pub not_written : (v : Value) → Means v → NotWritten r schema v e

-- A relay of messages of a type, and what callers see of it otherwise.
pub record RelayingOf (M : Type 0) : Type 0 where
  pub message_type : M
  pub relaying : Relaying
