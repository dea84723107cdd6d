-- How the state of an encoder changes, by its relation between the states before and after a record.
use Rattle.std.specs.Prelude.{◌≡◌, ◌∷◌, [], ℕ, Bool, true, false}
use Rattle.asn1_model.specs.Value.{Value, Values, Parts}
use Rattle.asn1_model.specs.Schema.{Presence, Schema}
use Rattle.asn1_schema_errors.specs.declared.EncodeError.{EncodeError}
use Rattle.asn1_schema_errors.specs.declared.EncodeError.TheVariants.{OutOfMemory}
use Rattle.asn1_schema_laws.specs.Records.{Record, presence_bit, further, ends}
use Rattle.asn1_schema_laws.specs.Presents.{Part, presents, part_records, member_records, Fits, PartFits, AllFit}
use Rattle.asn1_schema_laws.specs.Tables.{Table}
use Rattle.asn1_schema_laws.specs.Chains.{Chain}
use Rattle.asn1_schema_laws.specs.Parts.{tail_records, TailFits}

-- Why an encoder returns the error x: memory ran out, or no state follows the record.
pub record Refused {S : Type 0} (step : S → Record → S → Type 0) (r : Record) (old : S) (x : EncodeError) : Type 0 where
  pub none : ¬ (x ≡ OutOfMemory) → (new : S) → step old r new → ⊥

-- The state changes from old to new by the records of v, at any depth of unfolding of the type in which the value
-- fits.
pub record Writes {S : Type 0} (step : S → Record → S → Type 0) (schema : ℕ → Schema) (v : Value) (old new : S) : Type
    0 where
  pub chain : (n : ℕ) → Fits (schema n) v → Chain step (presents (schema n) v) old new

-- Why a value is not written: memory ran out, or no state follows its records.
pub record CannotWrite {S : Type 0} (step : S → Record → S → Type 0) (schema : ℕ → Schema) (v : Value) (old : S)
    (x : EncodeError) : Type 0 where
  pub none : ¬ (x ≡ OutOfMemory) → (n : ℕ) (new : S) → Fits (schema n) v → Chain step (presents (schema n) v) old new
      → ⊥

-- `Writes` for one component.
pub record WritesPart {S : Type 0} (step : S → Record → S → Type 0) (o : Presence) (schema : ℕ → Schema) (x : Part)
    (old new : S) : Type 0 where
  pub chain : (n : ℕ) → PartFits (λ v. Fits (schema n) v) o x
      → Chain step (part_records (λ v. presents (schema n) v) o (schema n) x) old new

pub record CannotWritePart {S : Type 0} (step : S → Record → S → Type 0) (o : Presence) (schema : ℕ → Schema)
    (x : Part) (old : S) (e : EncodeError) : Type 0 where
  pub none : ¬ (e ≡ OutOfMemory) → (n : ℕ) (new : S) → PartFits (λ v. Fits (schema n) v) o x
      → Chain step (part_records (λ v. presents (schema n) v) o (schema n) x) old new → ⊥

-- A component that may be absent and is present: a presence bit of 1, followed by the records of its value.
pub record WritesPresent {S : Type 0} (step : S → Record → S → Type 0) (schema : ℕ → Schema) (v : Value)
    (old new : S) : Type 0 where
  pub behind_presence_bit : S
  pub presence_bits : step old (presence_bit true) behind_presence_bit
  pub writes : Writes step schema v behind_presence_bit new

pub record CannotWritePresent {S : Type 0} (step : S → Record → S → Type 0) (schema : ℕ → Schema) (v : Value) (old : S)
    (x : EncodeError) : Type 0 where
  pub none : ¬ (x ≡ OutOfMemory) → (n : ℕ) (mid new : S) → step old (presence_bit true) mid → Fits (schema n) v
      → Chain step (presents (schema n) v) mid new → ⊥

-- A component with a default is absent if it is equal to the default (true).
abbrev pub WritesUnless : Bool → {S : Type 0} → (S → Record → S → Type 0) → (ℕ → Schema) → Value → S → S → Type 0
WritesUnless true step schema v old new = step old (presence_bit false) new
WritesUnless false step schema v old new = WritesPresent step schema v old new

abbrev pub CannotWriteUnless : Bool → {S : Type 0} → (S → Record → S → Type 0) → (ℕ → Schema) → Value → S
    → EncodeError → Type 0
CannotWriteUnless true step schema v old x = Refused step (presence_bit false) old x
CannotWriteUnless false step schema v old x = CannotWritePresent step schema v old x

-- `Writes` for the rest of a SEQUENCE.
pub record WritesTail {S : Type 0} (step : S → Record → S → Type 0) (t : Table) (ps qs : Parts) (old new : S) : Type 0
  where
    pub chain : (n : ℕ) → TailFits n t ps qs → Chain step (tail_records n t ps qs) old new

pub record CannotWriteTail {S : Type 0} (step : S → Record → S → Type 0) (t : Table) (ps qs : Parts) (old : S)
    (e : EncodeError) : Type 0 where
  pub none : ¬ (e ≡ OutOfMemory) → (n : ℕ) (new : S) → TailFits n t ps qs
      → Chain step (tail_records n t ps qs) old new → ⊥

-- `Writes` for the elements of a list, and its end.
pub record WritesMembers {S : Type 0} (step : S → Record → S → Type 0) (schema : ℕ → Schema) (vs : Values)
    (old new : S) : Type 0 where
  pub chain : (n : ℕ) → AllFit (λ v. Fits (schema n) v) vs
      → Chain step (member_records (λ v. presents (schema n) v) vs) old new

pub record CannotWriteMembers {S : Type 0} (step : S → Record → S → Type 0) (schema : ℕ → Schema) (vs : Values)
    (old : S) (e : EncodeError) : Type 0 where
  pub none : ¬ (e ≡ OutOfMemory) → (n : ℕ) (new : S) → AllFit (λ v. Fits (schema n) v) vs
      → Chain step (member_records (λ v. presents (schema n) v) vs) old new → ⊥

-- The state changes from old to new by the records after the last element of a list: no further one, and the end.
abbrev pub EndsMembers : {S : Type 0} → (S → Record → S → Type 0) → S → S → Type 0
EndsMembers step old new = Chain step (further false ∷ ends ∷ []) old new

pub record CannotEndMembers {S : Type 0} (step : S → Record → S → Type 0) (old : S) (e : EncodeError) : Type 0 where
  pub none : ¬ (e ≡ OutOfMemory) → (new : S) → EndsMembers step old new → ⊥
