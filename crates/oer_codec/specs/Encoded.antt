-- The results of the calls that encode.
use Rattle.std.specs.Prelude.{ℕ, List, Some}
use Rattle.asn1_model.specs.Schema.{Schema}
use Rattle.asn1_model.specs.Value.{Value}
use Rattle.asn1_schema_errors.specs.declared.EncodeError.{EncodeError}
use Rattle.asn1_schema_encode.specs.Written.{IsWrittenIn, NotWrittenIn}
use Rattle.oer_codec_encoder.specs.Written.{octet_rules}

-- These octets are the canonical encoding of the value (X.696), in OER as in COER, at any depth to which its type is
-- unfolded: `IsWrittenIn` for the rules of both.
abbrev pub IsEncoded : (ℕ → Schema) → Value → List ℕ → Type 0
IsEncoded schema v w = IsWrittenIn octet_rules schema v (Some w)

-- Why it is encoded in neither: `NotWrittenIn` for the same rules.
abbrev pub NotEncoded : (ℕ → Schema) → Value → EncodeError → Type 0
NotEncoded schema v e = NotWrittenIn octet_rules schema v e
