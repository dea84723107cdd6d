-- The rules of a reader, and its freedoms; with which forms the unread octets begin, and why a reader refuses them.
use Rattle.std.specs.Prelude.{◌≡◌, ℕ, ◌++◌, Bool, true, false, List}
use Rattle.asn1_model.specs.Schema.{Schema}
use Rattle.asn1_model.specs.Value.{Value}
use Rattle.asn1_model.specs.Form.{Reads}
use Rattle.asn1_model.specs.Oer.{Freedom, OctetForm, form}
use Rattle.asn1_model.specs.Rules.{lenient, strict_oer}
use Rattle.asn1_schema_errors.specs.declared.DecodeError.{DecodeError}
use Rattle.asn1_schema_errors.specs.declared.DecodeError.TheVariants.{AlreadyFailed, OutOfMemory}
use Rattle.oer_codec_reading.specs.declared.rules.EncodingRules.{EncodingRules}
use Rattle.oer_codec_reading.specs.declared.rules.EncodingRules.TheVariants.{Oer, Coer}

-- Whether these are OER.
abbrev pub is_basic : EncodingRules → Bool
is_basic Oer = true
is_basic Coer = false

-- What a reader under these rules accepts besides the canonical form.
abbrev pub freedoms : EncodingRules → Freedom → Bool
freedoms Oer = lenient
freedoms Coer = strict_oer

-- The octets begin with a text of this form, and the rest follows.
abbrev pub Stands : (Freedom → Bool) → OctetForm → List ℕ → List ℕ → Type 0
Stands free x os rest = (w : List ℕ) × (w ++ rest ≡ os) × Reads free x 0 w

-- The octets begin with an encoding of a value of a type.
abbrev pub FrontOf : (Freedom → Bool) → Schema → Value → List ℕ → List ℕ → Type 0
FrontOf free s v os rest = Stands free (form s v) os rest

-- The octets do not begin with any of some forms, whatever follows.
abbrev pub NoneStands : {X : Type 0} → (Freedom → Bool) → (X → OctetForm) → List ℕ → Type 0
NoneStands {X} free f os = (x : X) (rest : List ℕ) → Stands free (f x) os rest → ⊥

-- Why a reader of some forms fails: memory ran out, or the octets begin with none of them. It does not know of
-- earlier errors.
abbrev pub Misses : {X : Type 0} → (Freedom → Bool) → (X → OctetForm) → List ℕ → DecodeError → Type 0
Misses free f os OutOfMemory = Unit {0}
Misses free f os AlreadyFailed = ⊥
Misses free f os e = NoneStands free f os

-- Why a reader of a type fails: memory ran out, or the octets do not begin with an encoding of a value of the type.
abbrev pub NoFront : (Freedom → Bool) → Schema → List ℕ → DecodeError → Type 0
NoFront free s os e = Misses free (form s) os e
