-- How extension additions change the state of a decoder (X.680 25).
use Rattle.std.specs.Prelude.{◌≡◌, ℕ, true, false}
use Rattle.asn1_model.specs.Value.{Value, Parts, same}
use Rattle.asn1_model.specs.Schema.{Presence, Schema}
use Rattle.asn1_model.specs.Normal.{normal_parts}
use Rattle.asn1_schema_errors.specs.declared.DecodeError.{DecodeError}
use Rattle.asn1_schema_errors.specs.declared.DecodeError.TheVariants.{OutOfMemory}
use Rattle.asn1_schema_laws.specs.Records.{Record, is_default, addition, addition_ends}
use Rattle.asn1_schema_laws.specs.Presents.{Part, left_out, there, presents, addition_records, added_records}
use Rattle.asn1_schema_laws.specs.Presents.{Fits, PartFits, PartsFit}
use Rattle.asn1_schema_laws.specs.Parts.{normal_part}
use Rattle.asn1_schema_laws.specs.Tables.{Fields, components_at}
use Rattle.asn1_schema_laws.specs.Chains.{Chain}
use Rattle.asn1_schema_decode.specs.Reads.{Reads}

-- An addition is announced as present, followed by the records of its value, and its end.
pub record ReadsEnclosed {S : Type 0} (step : S → Record → S → Type 0) (schema : ℕ → Schema) (n : ℕ) (v : Value)
    (old new : S) : Type 0 where
  pub begun : S
  pub read : S
  pub begins : step old (addition true) begun
  pub reads : Reads step schema n v begun read
  pub ends : step read addition_ends new

-- An addition that may be absent, present or absent.
abbrev pub ReadsExtension : {S : Type 0} → (S → Record → S → Type 0) → (ℕ → Schema) → ℕ → Part → S → S → Type 0
ReadsExtension step schema n left_out old new = step old (addition false) new
ReadsExtension step schema n (there v) old new = ReadsEnclosed step schema n v old new

-- Why an addition is not read: memory ran out, or the records of none are next, even with a little more input.
pub record UnreadExtension {S : Type 0} (step : S → Record → S → Type 0) (few : S → S → S → Type 0)
    (schema : ℕ → Schema) (n : ℕ) (old failed : S) (x : DecodeError) : Type 0 where
  pub none : ¬ (x ≡ OutOfMemory) → (a : S) → few old failed a → (p : Part) (new : S)
      → ReadsExtension step schema n p a new → ⊥

-- An addition with the default d: absent; encoded although equal to the default, which is noted; or of another value.
pub data ReadsExtensionDefault {S : Type 0} (step : S → Record → S → Type 0) (schema : ℕ → Schema) (n : ℕ)
    (d v : Value) (old new : S) : Type 0 where
  omitted : v ≡ d → step old (addition false) new → ReadsExtensionDefault step schema n d v old new
  spelled_out : same v d ≡ true → (behind : S) → ReadsEnclosed step schema n v old behind → step behind is_default new
      → ReadsExtensionDefault step schema n d v old new
  other_value : same v d ≡ false → ReadsEnclosed step schema n v old new
      → ReadsExtensionDefault step schema n d v old new

pub record UnreadExtensionDefault {S : Type 0} (step : S → Record → S → Type 0) (few : S → S → S → Type 0)
    (schema : ℕ → Schema) (n : ℕ) (d : Value) (old failed : S) (x : DecodeError) : Type 0 where
  pub none : ¬ (x ≡ OutOfMemory) → (a : S) → few old failed a → (v : Value) (new : S)
      → ReadsExtensionDefault step schema n d v a new → ⊥

-- An addition under its type's constraints, present or absent; x is its normal form.
pub record ReadsAddition {S : Type 0} (step : S → Record → S → Type 0) (o : Presence) (schema : ℕ → Schema) (n : ℕ)
    (x : Part) (old new : S) : Type 0 where
  pub raw : Part
  pub fits : PartFits (λ v. Fits (schema n) v) o raw
  pub means : normal_part o (schema n) raw ≡ x
  pub chain : Chain step (addition_records (λ v. presents (schema n) v) o (schema n) raw) old new

pub record UnreadAddition {S : Type 0} (step : S → Record → S → Type 0) (few : S → S → S → Type 0) (o : Presence)
    (schema : ℕ → Schema) (n : ℕ) (old failed : S) (x : DecodeError) : Type 0 where
  pub none : ¬ (x ≡ OutOfMemory) → (a : S) → few old failed a → (p : Part) (new : S)
      → PartFits (λ v. Fits (schema n) v) o p
      → Chain step (addition_records (λ v. presents (schema n) v) o (schema n) p) a new → ⊥

-- The remaining additions, and the end.
pub record ReadsAdded {S : Type 0} (step : S → Record → S → Type 0) (fs : Fields) (n : ℕ) (qs : Parts) (old new : S) :
    Type 0 where
  pub raw : Parts
  pub fits : PartsFit (components_at n fs) raw
  pub means : normal_parts (components_at n fs) raw ≡ qs
  pub chain : Chain step (added_records (components_at n fs) raw) old new

pub record UnreadAdded {S : Type 0} (step : S → Record → S → Type 0) (few : S → S → S → Type 0) (fs : Fields) (n : ℕ)
    (old failed : S) (x : DecodeError) : Type 0 where
  pub none : ¬ (x ≡ OutOfMemory) → (a : S) → few old failed a → (qs : Parts) (new : S)
      → PartsFit (components_at n fs) qs → Chain step (added_records (components_at n fs) qs) a new → ⊥
