-- How extension additions change the state of an encoder (X.680 25).
use Rattle.std.specs.Prelude.{◌≡◌, ℕ, true}
use Rattle.asn1_model.specs.Value.{Value, Parts}
use Rattle.asn1_model.specs.Schema.{Presence, Schema}
use Rattle.asn1_schema_errors.specs.declared.EncodeError.{EncodeError}
use Rattle.asn1_schema_errors.specs.declared.EncodeError.TheVariants.{OutOfMemory}
use Rattle.asn1_schema_laws.specs.Records.{Record, addition, addition_ends}
use Rattle.asn1_schema_laws.specs.Presents.{Part, presents, addition_records, added_records, Fits, PartFits}
use Rattle.asn1_schema_laws.specs.Presents.{PartsFit}
use Rattle.asn1_schema_laws.specs.Tables.{Fields, components_at}
use Rattle.asn1_schema_laws.specs.Chains.{Chain}
use Rattle.asn1_schema_encode.specs.Writes.{Writes}

-- An addition is announced as present, followed by the records of its value, and its end.
pub record WritesEnclosed {S : Type 0} (step : S → Record → S → Type 0) (schema : ℕ → Schema) (v : Value)
    (old new : S) : Type 0 where
  pub begun : S
  pub written : S
  pub begins : step old (addition true) begun
  pub writes : Writes step schema v begun written
  pub ends : step written addition_ends new

-- Why an addition is not written: memory ran out, or no state follows its records.
pub record CannotWriteEnclosed {S : Type 0} (step : S → Record → S → Type 0) (schema : ℕ → Schema) (v : Value)
    (old : S) (x : EncodeError) : Type 0 where
  pub none : ¬ (x ≡ OutOfMemory) → (n : ℕ) (begun written new : S) → step old (addition true) begun
      → Fits (schema n) v → Chain step (presents (schema n) v) begun written → step written addition_ends new → ⊥

-- One addition, present or absent.
pub record WritesAddition {S : Type 0} (step : S → Record → S → Type 0) (o : Presence) (schema : ℕ → Schema)
    (x : Part) (old new : S) : Type 0 where
  pub chain : (n : ℕ) → PartFits (λ v. Fits (schema n) v) o x
      → Chain step (addition_records (λ v. presents (schema n) v) o (schema n) x) old new

pub record CannotWriteAddition {S : Type 0} (step : S → Record → S → Type 0) (o : Presence) (schema : ℕ → Schema)
    (x : Part) (old : S) (e : EncodeError) : Type 0 where
  pub none : ¬ (e ≡ OutOfMemory) → (n : ℕ) (new : S) → PartFits (λ v. Fits (schema n) v) o x
      → Chain step (addition_records (λ v. presents (schema n) v) o (schema n) x) old new → ⊥

-- The remaining additions, and the end.
pub record WritesAdded {S : Type 0} (step : S → Record → S → Type 0) (fs : Fields) (qs : Parts) (old new : S) : Type 0
  where
    pub chain : (n : ℕ) → PartsFit (components_at n fs) qs → Chain step (added_records (components_at n fs) qs) old new

pub record CannotWriteAdded {S : Type 0} (step : S → Record → S → Type 0) (fs : Fields) (qs : Parts) (old : S)
    (e : EncodeError) : Type 0 where
  pub none : ¬ (e ≡ OutOfMemory) → (n : ℕ) (new : S) → PartsFit (components_at n fs) qs
      → Chain step (added_records (components_at n fs) qs) old new → ⊥
