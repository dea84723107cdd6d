-- The rules of the calls, and that they return at most one value, in strict rules and in lenient ones.
use Rattle.std.specs.Prelude.{◌≡◌, ℕ, true, List}
use Rattle.asn1_model.specs.Value.{Value, same}
use Rattle.asn1_model.specs.Schema.{Schema}
use Rattle.asn1_model.specs.Lawful.{IsLawful}
use Rattle.asn1_model.specs.Rules.{Rules, uper, aper, uper_strict, aper_strict}
use Rattle.asn1_schema_errors.specs.declared.DecodeError.{DecodeError}
use Rattle.asn1_schema_errors.specs.declared.DecodeError.TheVariants.{OutOfMemory}
use Rattle.asn1_schema_decode.specs.Messages.{OneMessageIn, Tells, NoMessage}
use Rattle.per_codec_reading.specs.declared.rules.PackedRules.{PackedRules}
use Rattle.per_codec_reading.specs.declared.rules.PackedRules.TheVariants.{Uper, Aper, UperStrict, AperStrict}

-- The rules under the names of the model.
abbrev pub rules_of : PackedRules → Rules
rules_of Uper = uper
rules_of Aper = aper
rules_of UperStrict = uper_strict
rules_of AperStrict = aper_strict

-- An input begins with a message of at most one value of a well-formed type, up to the order of the elements of each
-- SET OF, and the rest after the message is unique.
abbrev pub OneMessage : Type 0
OneMessage = (rules : PackedRules) → OneMessageIn (rules_of rules)

-- ---- strict rules and lenient ones

-- A message that the strict rules read, the lenient ones read as the same value.
abbrev pub IsToldToo : Rules → Rules → Type 0
IsToldToo strict wide =
    (schema : ℕ → Schema) (v : Value) (input rest : List ℕ) → Tells strict schema v input rest
    → Tells wide schema v input rest

abbrev pub StrictIsToldLeniently : Type 0
StrictIsToldLeniently = IsToldToo uper_strict uper × IsToldToo aper_strict aper

-- Where the strict rules read a value of a well-formed type, the lenient ones read no other, up to the order of the
-- elements of each SET OF, and the rest after the message is the same.
abbrev pub IsToldAlone : Rules → Rules → Type 0
IsToldAlone strict wide =
    (schema : ℕ → Schema) (v w : Value) (input x y : List ℕ) → IsLawful (schema 128) → Tells strict schema v input x
    → Tells wide schema w input y → (same v w ≡ true) × (x ≡ y)

abbrev pub NothingElseIsToldLeniently : Type 0
NothingElseIsToldLeniently = IsToldAlone uper_strict uper × IsToldAlone aper_strict aper

-- Where the strict rules read a value, the lenient ones refuse the input only when out of memory.
abbrev pub IsRefusedForMemory : Rules → Rules → Type 0
IsRefusedForMemory strict wide =
    (schema : ℕ → Schema) (v : Value) (input rest : List ℕ) (e : DecodeError) → Tells strict schema v input rest
    → NoMessage wide schema input e → e ≡ OutOfMemory

abbrev pub StrictIsRefusedForMemory : Type 0
StrictIsRefusedForMemory = IsRefusedForMemory uper_strict uper × IsRefusedForMemory aper_strict aper
