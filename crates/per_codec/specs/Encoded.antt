-- The results of the calls that encode.
use Rattle.std.specs.Prelude.{ℕ, List, Some}
use Rattle.asn1_model.specs.Schema.{Schema}
use Rattle.asn1_model.specs.Value.{Value}
use Rattle.asn1_schema_errors.specs.declared.EncodeError.{EncodeError}
use Rattle.asn1_schema_encode.specs.Written.{IsWrittenIn, NotWrittenIn}
use Rattle.per_codec_encoder.specs.Written.{packed_rules}
use Rattle.per_codec_rules.specs.Variants.{is_aligned}
use Rattle.per_codec_rules.specs.declared.variant.Variant.{Variant}

-- These octets are the canonical encoding of the value (X.691) in this variant, at any depth to which its type is
-- unfolded: `IsWrittenIn` for the rules of the variant.
abbrev pub IsEncoded : Variant → (ℕ → Schema) → Value → List ℕ → Type 0
IsEncoded variant schema v w = IsWrittenIn (packed_rules (is_aligned variant)) schema v (Some w)

-- Why it is not encoded in that variant: `NotWrittenIn` for the same rules.
abbrev pub NotEncoded : Variant → (ℕ → Schema) → Value → EncodeError → Type 0
NotEncoded variant schema v e = NotWrittenIn (packed_rules (is_aligned variant)) schema v e
