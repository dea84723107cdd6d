-- How the state of a decoder changes.
use Rattle.std.specs.Prelude.{◌≡◌, ◌<◌, ℕ, true, false}
use Rattle.asn1_model.specs.Value.{Value, Values, Parts, map_members, same}
use Rattle.asn1_model.specs.Schema.{Presence, Counts, Schema}
use Rattle.asn1_model.specs.Numbers.{is_count_within}
use Rattle.asn1_model.specs.Normal.{normal, normal_parts}
use Rattle.asn1_schema_errors.specs.declared.DecodeError.{DecodeError}
use Rattle.asn1_schema_errors.specs.declared.DecodeError.TheVariants.{OutOfMemory}
use Rattle.asn1_schema_laws.specs.Records.{Record, Question, question, presence_bit, is_default}
use Rattle.asn1_schema_laws.specs.Presents.{Part, left_out, there, presents, part_records, member_records}
use Rattle.asn1_model.specs.Lawful.{member_count}
use Rattle.asn1_schema_laws.specs.Presents.{Fits, PartFits, AllFit}
use Rattle.asn1_schema_laws.specs.Tables.{Table, components_at}
use Rattle.asn1_schema_laws.specs.Chains.{Chain}
use Rattle.asn1_schema_laws.specs.Parts.{normal_part, tail_records, TailFits}

-- Why a decoder returns the error x: memory ran out, or no record that answers this question is next, even with a
-- little more input. `few old failed a` says that a is old with more input appended, but less than the decoder in the
-- state failed needs at least.
pub record NoRecord {S : Type 0} (step : S → Record → S → Type 0) (few : S → S → S → Type 0) (q : Question)
    (old failed : S) (x : DecodeError) : Type 0 where
  pub none : ¬ (x ≡ OutOfMemory) → (a : S) → few old failed a → (r : Record) (new : S) → question r ≡ q → step a r new
      → ⊥

-- As `NoRecord`, or no further level may be nested.
pub record NoLevel {S : Type 0} (step : S → Record → S → Type 0) (few : S → S → S → Type 0) (q : Question) (levels : ℕ)
    (old failed : S) (x : DecodeError) : Type 0 where
  pub none : ¬ (x ≡ OutOfMemory) → (a : S) → few old failed a → 0 < levels → (r : Record) (new : S) → question r ≡ q
      → step a r new → ⊥

-- The state goes from old to new by the records of a value with at most n nested levels, and v is its normal form.
pub record Reads {S : Type 0} (step : S → Record → S → Type 0) (schema : ℕ → Schema) (n : ℕ) (v : Value)
    (old new : S) : Type 0 where
  pub raw : Value
  pub fits : Fits (schema n) raw
  pub means : normal (schema n) raw ≡ v
  pub chain : Chain step (presents (schema n) raw) old new

-- Why no value is read: memory ran out, or the records of no value are next.
pub record Unread {S : Type 0} (step : S → Record → S → Type 0) (few : S → S → S → Type 0) (schema : ℕ → Schema)
    (n : ℕ) (old failed : S) (x : DecodeError) : Type 0 where
  pub none : ¬ (x ≡ OutOfMemory) → (a : S) → few old failed a → (v : Value) (new : S) → Fits (schema n) v
      → Chain step (presents (schema n) v) a new → ⊥

-- `Reads` for one component.
pub record ReadsPart {S : Type 0} (step : S → Record → S → Type 0) (o : Presence) (schema : ℕ → Schema) (n : ℕ)
    (x : Part) (old new : S) : Type 0 where
  pub raw : Part
  pub fits : PartFits (λ v. Fits (schema n) v) o raw
  pub means : normal_part o (schema n) raw ≡ x
  pub chain : Chain step (part_records (λ v. presents (schema n) v) o (schema n) raw) old new

pub record UnreadPart {S : Type 0} (step : S → Record → S → Type 0) (few : S → S → S → Type 0) (o : Presence)
    (schema : ℕ → Schema) (n : ℕ) (old failed : S) (x : DecodeError) : Type 0 where
  pub none : ¬ (x ≡ OutOfMemory) → (a : S) → few old failed a → (p : Part) (new : S)
      → PartFits (λ v. Fits (schema n) v) o p
      → Chain step (part_records (λ v. presents (schema n) v) o (schema n) p) a new → ⊥

-- A component that may be absent and is present: a presence bit of 1, followed by the records of its value.
pub record ReadsPresent {S : Type 0} (step : S → Record → S → Type 0) (schema : ℕ → Schema) (n : ℕ) (v : Value)
    (old new : S) : Type 0 where
  pub behind_presence_bit : S
  pub presence_bits : step old (presence_bit true) behind_presence_bit
  pub reads : Reads step schema n v behind_presence_bit new

-- A component that may be absent, present or absent.
abbrev pub ReadsOptional : {S : Type 0} → (S → Record → S → Type 0) → (ℕ → Schema) → ℕ → Part → S → S → Type 0
ReadsOptional step schema n left_out old new = step old (presence_bit false) new
ReadsOptional step schema n (there v) old new = ReadsPresent step schema n v old new

pub record UnreadOptional {S : Type 0} (step : S → Record → S → Type 0) (few : S → S → S → Type 0) (schema : ℕ → Schema)
    (n : ℕ) (old failed : S) (x : DecodeError) : Type 0 where
  pub none : ¬ (x ≡ OutOfMemory) → (a : S) → few old failed a → (p : Part) (new : S)
      → ReadsOptional step schema n p a new → ⊥

-- A component with the default d: absent; encoded although equal to the default, which is noted; or of another value.
pub data ReadsDefault {S : Type 0} (step : S → Record → S → Type 0) (schema : ℕ → Schema) (n : ℕ) (d v : Value)
    (old new : S) : Type 0 where
  omitted : v ≡ d → step old (presence_bit false) new → ReadsDefault step schema n d v old new
  spelled_out : same v d ≡ true → (behind : S) → ReadsPresent step schema n v old behind → step behind is_default new
      → ReadsDefault step schema n d v old new
  other_value : same v d ≡ false → ReadsPresent step schema n v old new → ReadsDefault step schema n d v old new

pub record UnreadDefault {S : Type 0} (step : S → Record → S → Type 0) (few : S → S → S → Type 0) (schema : ℕ → Schema)
    (n : ℕ) (d : Value) (old failed : S) (x : DecodeError) : Type 0 where
  pub none : ¬ (x ≡ OutOfMemory) → (a : S) → few old failed a → (v : Value) (new : S)
      → ReadsDefault step schema n d v a new → ⊥

-- `Reads` for the rest of a SEQUENCE.
pub record ReadsTail {S : Type 0} (step : S → Record → S → Type 0) (t : Table) (n : ℕ) (ps qs : Parts) (old new : S) :
    Type 0 where
  pub root : Parts
  pub additions : Parts
  pub fits : TailFits n t root additions
  pub means : normal_parts (components_at n t.root) root ≡ ps
  pub means_added : normal_parts (components_at n t.additions) additions ≡ qs
  pub chain : Chain step (tail_records n t root additions) old new

pub record UnreadTail {S : Type 0} (step : S → Record → S → Type 0) (few : S → S → S → Type 0) (t : Table) (n : ℕ)
    (old failed : S) (x : DecodeError) : Type 0 where
  pub none : ¬ (x ≡ OutOfMemory) → (a : S) → few old failed a → (ps qs : Parts) (new : S) → TailFits n t ps qs
      → Chain step (tail_records n t ps qs) a new → ⊥

-- `Reads` for the elements of a list, and its end.
pub record ReadsMembers {S : Type 0} (step : S → Record → S → Type 0) (schema : ℕ → Schema) (n : ℕ) (us : Values)
    (old new : S) : Type 0 where
  pub raw : Values
  pub fits : AllFit (λ v. Fits (schema n) v) raw
  pub means : map_members (λ v. normal (schema n) v) raw ≡ us
  pub chain : Chain step (member_records (λ v. presents (schema n) v) raw) old new

-- Why the elements of a list, of a count within h, are not read: memory ran out, or the records of none are next.
pub record UnreadMembers {S : Type 0} (step : S → Record → S → Type 0) (few : S → S → S → Type 0) (schema : ℕ → Schema)
    (n : ℕ) (h : Counts) (old failed : S) (x : DecodeError) : Type 0 where
  pub none : ¬ (x ≡ OutOfMemory) → (a : S) → few old failed a → (vs : Values) (new : S)
      → is_count_within h (member_count vs) ≡ true → AllFit (λ v. Fits (schema n) v) vs
      → Chain step (member_records (λ v. presents (schema n) v) vs) a new → ⊥
