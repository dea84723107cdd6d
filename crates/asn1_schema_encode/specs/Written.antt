-- The results of encoding, in sets of rules that share one encoder.
use Rattle.std.specs.Prelude.{◌≡◌, ◌≤◌, ◌^◌, ℕ, List, [], ◌∷◌, length, Option, Some, None}
use Rattle.asn1_model.specs.Schema.{Schema}
use Rattle.asn1_model.specs.Value.{Value}
use Rattle.asn1_model.specs.Normal.{normal}
use Rattle.asn1_model.specs.Rules.{Rules, encoding, canonical}
use Rattle.asn1_schema_errors.specs.declared.EncodeError.{EncodeError}
use Rattle.asn1_schema_errors.specs.declared.EncodeError.TheVariants.{TooLongValue, OutOfMemory, AlreadyFailed}
use Rattle.asn1_schema_errors.specs.declared.EncodeError.TheVariants.{CallOutOfPlace, LengthExceedsPlatformSize}
use Rattle.asn1_schema_laws.specs.Presents.{Fits}

-- A property holds in each of these sets of rules.
abbrev pub InEach : List Rules → (Rules → Type 0) → Type 0
InEach [] P = Unit {0}
InEach (r ∷ []) P = P r
InEach (r ∷ s ∷ rs) P = P r × InEach (s ∷ rs) P

-- In each of these sets of rules this is the canonical encoding of a value, or there is none, at any depth of
-- unfolding of its type.
abbrev pub IsWrittenIn : List Rules → (ℕ → Schema) → Value → Option (List ℕ) → Type 0
IsWrittenIn rules schema v w = (n : ℕ) → Fits (schema n) v → InEach rules (λ r. canonical r (schema n) v ≡ w)

-- `IsWrittenIn` before the limit on the length of an encoding: these octets, however many, or none if the value itself
-- cannot be encoded.
abbrev pub HasTextIn : List Rules → (ℕ → Schema) → Value → Option (List ℕ) → Type 0
HasTextIn rules schema v w = (n : ℕ) → Fits (schema n) v
    → InEach rules (λ r. encoding r (schema n) (normal (schema n) v) ≡ w)

-- The value can be encoded, but its octets are 2 ^ 60 or more.
pub record IsTooLongIn (rules : List Rules) (schema : ℕ → Schema) (v : Value) : Type 0 where
  pub text : List ℕ
  pub has : HasTextIn rules schema v (Some text)
  pub beyond : 2 ^ 60 ≤ length text

-- Why a value is not written: memory ran out, or it has no canonical encoding, as its octets would be 2 ^ 60 or more
-- (TooLongValue), or as the value itself cannot be encoded (each other error).
pub record NotWrittenIn (rules : List Rules) (schema : ℕ → Schema) (v : Value) (e : EncodeError) : Type 0 where
  pub none : ¬ (e ≡ OutOfMemory) → IsWrittenIn rules schema v None
  pub long : e ≡ TooLongValue → IsTooLongIn rules schema v
  pub bare : ¬ (e ≡ OutOfMemory) → ¬ (e ≡ TooLongValue) → HasTextIn rules schema v None

-- An error that speaks of the value or of memory: not of an earlier error, of a misplaced call, or of a length that
-- the platform cannot hold.
pub record IsOfValue (e : EncodeError) : Type 0 where
  pub fresh : ¬ (e ≡ AlreadyFailed)
  pub in_place : ¬ (e ≡ CallOutOfPlace)
  pub fits : ¬ (e ≡ LengthExceedsPlatformSize)
