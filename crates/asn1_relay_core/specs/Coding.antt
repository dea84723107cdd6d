-- What the calls of a codec return, in one set of rules.
use Rattle.std.specs.Prelude.{ℕ, List, [], ◌∷◌, Option}
use Rattle.asn1_model.specs.Schema.{Schema}
use Rattle.asn1_model.specs.Value.{Value}
use Rattle.asn1_model.specs.Rules.{Rules, uper, aper, uper_strict, aper_strict, oer, coer}
use Rattle.asn1_schema_errors.specs.declared.CodecKind.{CodecKind}
use Rattle.asn1_schema_errors.specs.declared.CodecKind.TheVariants as Kind
use Rattle.asn1_schema_errors.specs.declared.EncodeError.{EncodeError}
use Rattle.asn1_schema_encode.specs.Written.{IsWrittenIn, NotWrittenIn}
use Rattle.asn1_relay_core.specs.declared.codec.Codec.{Codec}
use Rattle.asn1_relay_core.specs.declared.codec.Codec.TheVariants.{Uper, Aper, UperStrict, AperStrict, Oer, Coer}

-- The rules as the model names them.
abbrev pub rules_of : Codec → Rules
rules_of Uper = uper
rules_of Aper = aper
rules_of UperStrict = uper_strict
rules_of AperStrict = aper_strict
rules_of Oer = oer
rules_of Coer = coer

-- The rules as the traits of the schema name them.
abbrev pub kind_of : Codec → CodecKind
kind_of Uper = Kind.Uper
kind_of Aper = Kind.Aper
kind_of UperStrict = Kind.Uper
kind_of AperStrict = Kind.Aper
kind_of Oer = Kind.Oer
kind_of Coer = Kind.Coer

-- This is the canonical encoding of a value, or there is none, at any depth of unfolding of its type: `IsWrittenIn` for
-- these rules alone.
abbrev pub IsWritten : Rules → (ℕ → Schema) → Value → Option (List ℕ) → Type 0
IsWritten r schema v w = IsWrittenIn (r ∷ []) schema v w

-- Why it is not written: `NotWrittenIn` for these rules alone.
abbrev pub NotWritten : Rules → (ℕ → Schema) → Value → EncodeError → Type 0
NotWritten r schema v e = NotWrittenIn (r ∷ []) schema v e
