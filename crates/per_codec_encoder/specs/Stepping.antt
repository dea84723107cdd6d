-- The state of an encoder: what a writer holds, its variant, whether a call has failed; and how a record changes it.
use Rattle.std.specs.Prelude.{◌≡◌, Bool, true, false, Some}
use Rattle.asn1_schema_errors.specs.declared.CodecKind.{CodecKind}
use Rattle.asn1_schema_errors.specs.declared.CodecKind.TheVariants.{Uper, Aper}
use Rattle.asn1_schema_laws.specs.Records.{Record}
use Rattle.per_codec_rules.specs.declared.variant.Variant.{Variant}
use Rattle.per_codec_encoder.specs.Steps.{State, run}
use Rattle.per_codec_encoder.specs.declared.options.EncoderOptions.{EncoderOptions}

-- The variant that is written.
abbrev pub variant_of : EncoderOptions → Variant
variant_of o = o.variant

-- The rules of a variant.
abbrev pub rules_of : Bool → CodecKind
rules_of true = Aper
rules_of false = Uper

-- What an encoder holds: what a writer holds, whether it writes the aligned variant, and whether an earlier call
-- failed.
pub record Written : Type 0 where
  pub state : State
  pub aligned : Bool
  pub failed : Bool

-- A record is written: no call has failed, the variant stays, and the writer takes the step.
abbrev pub Puts : Written → Record → Written → Type 0
Puts a r b = (a.failed ≡ false) × (b.failed ≡ false) × (b.aligned ≡ a.aligned)
    × (run a.aligned r a.state ≡ Some b.state)
