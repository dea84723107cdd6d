-- The rules of the calls, and that they return at most one value, in COER and in OER.
use Rattle.std.specs.Prelude.{◌≡◌, ℕ, true, List}
use Rattle.asn1_model.specs.Value.{Value, same}
use Rattle.asn1_model.specs.Schema.{Schema}
use Rattle.asn1_model.specs.Lawful.{IsLawful}
use Rattle.asn1_model.specs.Rules.{Rules, oer, coer}
use Rattle.asn1_schema_errors.specs.declared.DecodeError.{DecodeError}
use Rattle.asn1_schema_errors.specs.declared.DecodeError.TheVariants.{OutOfMemory}
use Rattle.asn1_schema_decode.specs.Messages.{OneMessageIn, Tells, NoMessage}
use Rattle.oer_codec_reading.specs.declared.rules.EncodingRules.{EncodingRules}
use Rattle.oer_codec_reading.specs.declared.rules.EncodingRules.TheVariants.{Oer, Coer}

-- The rules under the names of the model.
abbrev pub rules_of : EncodingRules → Rules
rules_of Oer = oer
rules_of Coer = coer

-- An input begins with a message of at most one value of a well-formed type, up to the order of the elements of each
-- SET OF, and the rest after the message is unique.
abbrev pub OneMessage : Type 0
OneMessage = (rules : EncodingRules) → OneMessageIn (rules_of rules)

-- ---- COER and OER

-- A message that COER reads, OER reads as the same value.
abbrev pub StrictIsToldLeniently : Type 0
StrictIsToldLeniently =
    (schema : ℕ → Schema) (v : Value) (input rest : List ℕ) → Tells coer schema v input rest
    → Tells oer schema v input rest

-- Where COER reads a value of a well-formed type, OER reads no other, up to the order of the elements of each SET OF,
-- and the rest after the message is the same.
abbrev pub NothingElseIsToldLeniently : Type 0
NothingElseIsToldLeniently =
    (schema : ℕ → Schema) (v w : Value) (input x y : List ℕ) → IsLawful (schema 128) → Tells coer schema v input x
    → Tells oer schema w input y → (same v w ≡ true) × (x ≡ y)

-- Where COER reads a value, OER refuses the input only when out of memory.
abbrev pub StrictIsRefusedForMemory : Type 0
StrictIsRefusedForMemory =
    (schema : ℕ → Schema) (v : Value) (input rest : List ℕ) (e : DecodeError) → Tells coer schema v input rest
    → NoMessage oer schema input e → e ≡ OutOfMemory
