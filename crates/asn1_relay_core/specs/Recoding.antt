-- The translation of a message.
use Rattle.std.specs.Prelude.{ℕ, List, Option, Some, None, Result, Ok, Err, Vec}
use Rattle.asn1_model.specs.Schema.{Schema}
use Rattle.asn1_model.specs.Lawful.{IsLawful}
pub use Rattle.asn1_laws_versions.specs.Answers.{IsMessage, IsAnswer}
pub use Rattle.asn1_laws_versions.specs.Answers.{Answer, answered, not_an_encoding, surplus, no_target}
use Rattle.asn1_schema_errors.specs.declared.DecodeError.{DecodeError}
use Rattle.asn1_schema_errors.specs.declared.DecodeError.TheVariants as Decoding
use Rattle.asn1_schema_errors.specs.declared.EncodeError.{EncodeError}
use Rattle.asn1_schema_errors.specs.declared.EncodeError.TheVariants as Encoding
use Rattle.asn1_relay_core.specs.declared.codec.Codec.{Codec}
use Rattle.asn1_relay_core.specs.declared.translation.RecodeFault.{RecodeFault}
use Rattle.asn1_relay_core.specs.declared.translation.RecodeFault.TheVariants.{NotAnEncoding, Surplus, NoTarget, Memory}
use Rattle.asn1_relay_core.specs.Coding.{rules_of}

-- The result that an error is, unless memory ran out.
abbrev pub refusal_of : RecodeFault → Option Answer
refusal_of (NotAnEncoding e) = Some not_an_encoding
refusal_of Surplus = Some surplus
refusal_of (NoTarget e) = Some no_target
refusal_of Memory = None

-- The result, unless memory ran out.
abbrev pub answer_of : {Z : Type 0} → Result (Vec ℕ Z) RecodeFault → Option Answer
answer_of (Ok octets) = Some (answered octets.items)
answer_of (Err f) = refusal_of f

-- Out of memory is an error of its own, and is nested in no other.
abbrev pub NamesMemoryAlone : RecodeFault → Type 0
NamesMemoryAlone (NotAnEncoding Decoding.OutOfMemory) = ⊥
NamesMemoryAlone (NoTarget Encoding.OutOfMemory) = ⊥
NamesMemoryAlone f = Unit {0}

-- Codecs start afresh with each message: no error nests one of an earlier call.
abbrev pub NamesNoEarlierRefusal : RecodeFault → Type 0
NamesNoEarlierRefusal (NotAnEncoding Decoding.AlreadyFailed) = ⊥
NamesNoEarlierRefusal (NoTarget Encoding.AlreadyFailed) = ⊥
NamesNoEarlierRefusal f = Unit {0}

-- The codecs make no misplaced call themselves: no error nests one of a misplaced call.
abbrev pub NamesNoMisplacedCall : RecodeFault → Type 0
NamesNoMisplacedCall (NoTarget Encoding.CallOutOfPlace) = ⊥
NamesNoMisplacedCall f = Unit {0}

-- Each length that a codec writes fits the platform: no error nests one of a length that does not.
abbrev pub NamesNoPlatformSize : RecodeFault → Type 0
NamesNoPlatformSize (NoTarget Encoding.LengthExceedsPlatformSize) = ⊥
NamesNoPlatformSize f = Unit {0}

-- ---- errors

-- The errors of a translation that these become.
abbrev pub source_fault_of : DecodeError → RecodeFault
source_fault_of Decoding.OutOfMemory = Memory
source_fault_of e = NotAnEncoding e

abbrev pub target_fault_of : EncodeError → RecodeFault
target_fault_of Encoding.OutOfMemory = Memory
target_fault_of e = NoTarget e

-- ---- a law

-- A detour changes no result: what is right for the octets written on the way is right for the octets from which they
-- came, and vice versa. So a translation, translated to its own rules, stays the same.
abbrev pub DetoursChangeNoAnswer : Type 0
DetoursChangeNoAnswer = (from via to : Codec) (s : Schema) (w octets : List ℕ) (x : Answer) → IsLawful s
    → IsAnswer (rules_of from) (rules_of via) s w (answered octets)
    → (IsAnswer (rules_of via) (rules_of to) s octets x → IsAnswer (rules_of from) (rules_of to) s w x)
    × (IsAnswer (rules_of from) (rules_of to) s w x → IsAnswer (rules_of via) (rules_of to) s octets x)
