-- A walk over the records of a value: what it has read and kept, and what it still expects.
use Rattle.std.specs.Prelude.{◌≡◌, ◌+◌, ℕ, Bool, true, List, [], ◌∷◌, ◌++◌, length, Option, Some, None}
use Rattle.std.specs.Prelude.{◌||◌, slice_set as set}
use Rattle.asn1_model.specs.Value.{Value, Values, Parts, map_members}
use Rattle.asn1_model.specs.Schema.{Counts, Presence, Schema, Components}
use Rattle.asn1_model.specs.Numbers.{is_count_within}
use Rattle.asn1_model.specs.Normal.{normal, normal_parts, is_at_default, is_group_left_out}
use Rattle.asn1_model.specs.Lawful.{member_count}
use Rattle.asn1_schema_errors.specs.declared.DecodeError.{DecodeError}
use Rattle.asn1_schema_errors.specs.declared.DecodeError.TheVariants.{OutOfMemory}
use Rattle.asn1_schema_laws.specs.Records.{Record, presence_bit, addition, addition_ends, ends}
use Rattle.asn1_schema_laws.specs.Presents.{there, presents, member_records, part_records, addition_records, noted}
use Rattle.asn1_schema_laws.specs.Presents.{root_records, added_records, behind_root}
use Rattle.asn1_schema_laws.specs.Presents.{Fits, AllFit, PartsFit}
use Rattle.asn1_schema_laws.specs.Parts.{normal_part}
use Rattle.asn1_schema_laws.specs.Chains.{Chain}
use Rattle.asn1_schema_decode.specs.Reads.{Reads, Unread}

-- The state goes from old to new by the records of a value that nests at most n levels, and the records of its normal
-- form are kept after the others.
pub record ReadsOnto {S : Type 0} (step : S → Record → S → Type 0) (schema : ℕ → Schema) (n : ℕ) (old new : S)
    (before after : List Record) : Type 0 where
  pub value : Value
  pub reads : Reads step schema n value old new
  pub kept : after ≡ before ++ presents (schema n) value

-- The same of a type unfolded to some number of levels.
pub record Told {S : Type 0} (step : S → Record → S → Type 0) (s : Schema) (old new : S) (before after : List Record) :
    Type 0 where
  pub raw : Value
  pub fits : Fits s raw
  pub chain : Chain step (presents s raw) old new
  pub kept : after ≡ before ++ presents s (normal s raw)

-- Why no value of a type is read.
abbrev pub NoValue : {S : Type 0} → (S → Record → S → Type 0) → (S → S → S → Type 0) → Schema → S → S → DecodeError
    → Type 0
NoValue step few s old failed x = Unread step few (λ _. s) 0 old failed x

-- What is noted of a component with a value of these records is read, and whether its normal form leaves it out.
pub record Notes {S : Type 0} (step : S → Record → S → Type 0) (o : Presence) (s : Schema) (value : List Record)
    (left_out : Bool) (old new : S) : Type 0 where
  pub of_each : (v : Value) → Fits s v → value ≡ presents s (normal s v)
      → Chain step (noted o s v) old new × (left_out ≡ (is_at_default o s v || is_group_left_out s v))

-- Why it is not read.
pub record NotNoted {S : Type 0} (step : S → Record → S → Type 0) (few : S → S → S → Type 0) (o : Presence) (s : Schema)
    (value : List Record) (old failed : S) (x : DecodeError) : Type 0 where
  pub none : ¬ (x ≡ OutOfMemory) → (v : Value) → Fits s v → value ≡ presents s (normal s v) → (a : S)
      → few old failed a → (b : S) → Chain step (noted o s v) a b → ⊥

-- What is still to come of a value that has begun.
pub data Pending : Type 0 where
  -- members of a list, and its end: its beginning by the count of members, the counts that are held, the type of the
  -- members, where its beginning is kept, and how many elements were read
  members : (ℕ → Record) → Counts → Schema → ℕ → ℕ → Pending
  -- root components, then additions, if there are any or there is an extension marker, and the end
  root : Components → Bool → Components → Pending
  -- what is noted of a root component that was read, by its presence, its type, and where its presence bit is kept;
  -- then root components, and so on
  noting : Presence → Schema → ℕ → Components → Bool → Components → Pending
  -- additions, and the end
  added : Components → Pending
  -- the end of an addition that was read, by its presence, its type, and where the record that says so is kept, and
  -- what is noted of it; then the further ones
  inside : Presence → Schema → ℕ → Components → Pending
  -- the value of the alternative of a CHOICE that was chosen, and the end
  chosen : Schema → Pending
  -- the end of a CHOICE
  closing : Pending
  -- nothing: no frame means this
  lost : Pending

-- The rest of a list is read, and its count is put where its beginning is kept.
pub record EndsMembers {S : Type 0} (step : S → Record → S → Type 0) (f : ℕ → Record) (h : Counts) (s : Schema)
    (place count : ℕ) (old new : S) (before after : List Record) : Type 0 where
  pub raw : Values
  pub fits : AllFit (λ v. Fits s v) raw
  pub within : is_count_within h (count + member_count raw) ≡ true
  pub chain : Chain step (member_records (λ v. presents s v) raw) old new
  pub kept : after
      ≡ set (before ++ member_records (λ v. presents s v) (map_members (λ v. normal s v) raw)) place
      (f (count + member_count raw))

-- The rest of a sequence is read, from a root component on.
pub record EndsRoot {S : Type 0} (step : S → Record → S → Type 0) (cs : Components) (e : Bool) (adds : Components)
    (old new : S) (before after : List Record) : Type 0 where
  pub raw : Parts
  pub additions : Parts
  pub fits : PartsFit cs raw
  pub fits_added : PartsFit adds additions
  pub chain : Chain step (root_records cs raw (behind_root e adds (added_records adds additions))) old new
  pub kept : after
      ≡ before ++ root_records cs (normal_parts cs raw)
      (behind_root e adds (added_records adds (normal_parts adds additions)))

-- The same from an addition on.
pub record EndsAdded {S : Type 0} (step : S → Record → S → Type 0) (adds : Components) (old new : S)
    (before after : List Record) : Type 0 where
  pub raw : Parts
  pub fits : PartsFit adds raw
  pub chain : Chain step (added_records adds raw) old new
  pub kept : after ≡ before ++ added_records adds (normal_parts adds raw)

-- The same after the value of a root component, whose presence bit and value come after the records kept: what is
-- noted of it is read, and it is kept as the normal form has it (X.691 19.5, X.696 16).
pub record NotesRoot {S : Type 0} (step : S → Record → S → Type 0) (o : Presence) (s : Schema) (v : Value)
    (cs : Components) (e : Bool) (adds : Components) (old new : S) (kept after : List Record) : Type 0 where
  pub behind : S
  pub notes : Chain step (noted o s v) old behind
  pub rest : EndsRoot step cs e adds behind new
      (kept ++ part_records (λ w. presents s w) o s (normal_part o s (there v))) after

pub record EndsNoting {S : Type 0} (step : S → Record → S → Type 0) (o : Presence) (s : Schema) (place : ℕ)
    (cs : Components) (e : Bool) (adds : Components) (old new : S) (before after : List Record) : Type 0 where
  pub of_each : (kept : List Record) (v : Value) → length kept ≡ place → Fits s v
      → before ≡ kept ++ presence_bit true ∷ presents s (normal s v) → NotesRoot step o s v cs e adds old new kept after

-- The same from the end of an addition on.
pub record NotesAdded {S : Type 0} (step : S → Record → S → Type 0) (o : Presence) (s : Schema) (v : Value)
    (adds : Components) (old new : S) (kept after : List Record) : Type 0 where
  pub behind : S
  pub notes : Chain step (addition_ends ∷ noted o s v) old behind
  pub rest : EndsAdded step adds behind new
      (kept ++ addition_records (λ w. presents s w) o s (normal_part o s (there v))) after

pub record EndsInside {S : Type 0} (step : S → Record → S → Type 0) (o : Presence) (s : Schema) (place : ℕ)
    (adds : Components) (old new : S) (before after : List Record) : Type 0 where
  pub of_each : (kept : List Record) (v : Value) → length kept ≡ place → Fits s v
      → before ≡ kept ++ addition true ∷ presents s (normal s v) → NotesAdded step o s v adds old new kept after

-- The value of the chosen alternative is read, and the end.
pub record EndsChosen {S : Type 0} (step : S → Record → S → Type 0) (s : Schema) (old new : S)
    (before after : List Record) : Type 0 where
  pub raw : Value
  pub fits : Fits s raw
  pub chain : Chain step (presents s raw ++ (ends ∷ [])) old new
  pub kept : after ≡ before ++ (presents s (normal s raw) ++ (ends ∷ []))

-- The end is read.
pub record EndsClosing {S : Type 0} (step : S → Record → S → Type 0) (old new : S) (before after : List Record) :
    Type 0 where
  pub ended : step old ends new
  pub kept : after ≡ before ++ ends ∷ []

-- What was still to come is read.
abbrev pub Ends : {S : Type 0} → (S → Record → S → Type 0) → Pending → S → S → List Record → List Record → Type 0
Ends step (members f h s place count) old new before after = EndsMembers step f h s place count old new before after
Ends step (root cs e adds) old new before after = EndsRoot step cs e adds old new before after
Ends step (noting o s place cs e adds) old new before after =
    EndsNoting step o s place cs e adds old new before after
Ends step (added adds) old new before after = EndsAdded step adds old new before after
Ends step (inside o s place adds) old new before after = EndsInside step o s place adds old new before after
Ends step (chosen s) old new before after = EndsChosen step s old new before after
Ends step closing old new before after = EndsClosing step old new before after
Ends step lost old new before after = ⊥

-- Why the rest of a list is not read.
pub record StuckMembers {S : Type 0} (step : S → Record → S → Type 0) (within : S → S → S → Type 0) (h : Counts)
    (s : Schema) (count : ℕ) (old failed : S) (x : DecodeError) : Type 0 where
  pub none : ¬ (x ≡ OutOfMemory) → (a : S) → within old failed a → (vs : Values) (new : S)
      → is_count_within h (count + member_count vs) ≡ true → AllFit (λ v. Fits s v) vs
      → Chain step (member_records (λ v. presents s v) vs) a new → ⊥

-- Why the rest of a sequence is not read.
pub record StuckRoot {S : Type 0} (step : S → Record → S → Type 0) (few : S → S → S → Type 0) (cs : Components)
    (e : Bool) (adds : Components) (old failed : S) (x : DecodeError) : Type 0 where
  pub none : ¬ (x ≡ OutOfMemory) → (a : S) → few old failed a → (ps qs : Parts) (new : S) → PartsFit cs ps
      → PartsFit adds qs → Chain step (root_records cs ps (behind_root e adds (added_records adds qs))) a new → ⊥

pub record StuckAdded {S : Type 0} (step : S → Record → S → Type 0) (few : S → S → S → Type 0) (adds : Components)
    (old failed : S) (x : DecodeError) : Type 0 where
  pub none : ¬ (x ≡ OutOfMemory) → (a : S) → few old failed a → (qs : Parts) (new : S) → PartsFit adds qs
      → Chain step (added_records adds qs) a new → ⊥

-- The same after a component whose value is kept.
pub record StuckNoting {S : Type 0} (step : S → Record → S → Type 0) (few : S → S → S → Type 0) (o : Presence)
    (s : Schema) (place : ℕ) (cs : Components) (e : Bool) (adds : Components) (before : List Record) (old failed : S)
    (x : DecodeError) : Type 0 where
  pub none : ¬ (x ≡ OutOfMemory) → (kept : List Record) (v : Value) → length kept ≡ place → Fits s v
      → before ≡ kept ++ presence_bit true ∷ presents s (normal s v) → (a : S) → few old failed a → (b : S)
      → Chain step (noted o s v) a b → (ps qs : Parts) (new : S) → PartsFit cs ps → PartsFit adds qs
      → Chain step (root_records cs ps (behind_root e adds (added_records adds qs))) b new → ⊥

pub record StuckInside {S : Type 0} (step : S → Record → S → Type 0) (few : S → S → S → Type 0) (o : Presence)
    (s : Schema) (place : ℕ) (adds : Components) (before : List Record) (old failed : S) (x : DecodeError) : Type 0
  where
    pub none : ¬ (x ≡ OutOfMemory) → (kept : List Record) (v : Value) → length kept ≡ place → Fits s v
        → before ≡ kept ++ addition true ∷ presents s (normal s v) → (a : S) → few old failed a → (b : S)
        → Chain step (addition_ends ∷ noted o s v) a b → (qs : Parts) (new : S) → PartsFit adds qs
        → Chain step (added_records adds qs) b new → ⊥

-- Why the value of the chosen alternative and the end are not read.
pub record StuckChosen {S : Type 0} (step : S → Record → S → Type 0) (few : S → S → S → Type 0) (s : Schema)
    (old failed : S) (x : DecodeError) : Type 0 where
  pub none : ¬ (x ≡ OutOfMemory) → (a : S) → few old failed a → (v : Value) (new : S) → Fits s v
      → Chain step (presents s v ++ (ends ∷ [])) a new → ⊥

-- Why the end is not read.
pub record StuckClosing {S : Type 0} (step : S → Record → S → Type 0) (few : S → S → S → Type 0) (old failed : S)
    (x : DecodeError) : Type 0 where
  pub none : ¬ (x ≡ OutOfMemory) → (a : S) → few old failed a → (new : S) → step a ends new → ⊥

-- Why what is still to come is not read: memory ran out, or it is not next, even with a little more input. It depends
-- on what is kept so far.
abbrev pub Stuck : {S : Type 0} → (S → Record → S → Type 0) → (S → S → S → Type 0) → (S → S → S → Type 0) → Pending
    → List Record → S → S → DecodeError → Type 0
Stuck step few within (members f h s place count) kept old failed x = StuckMembers step within h s count old failed x
Stuck step few within (root cs e adds) kept old failed x = StuckRoot step few cs e adds old failed x
Stuck step few within (noting o s place cs e adds) kept old failed x =
    StuckNoting step few o s place cs e adds kept old failed x
Stuck step few within (added adds) kept old failed x = StuckAdded step few adds old failed x
Stuck step few within (inside o s place adds) kept old failed x = StuckInside step few o s place adds kept old failed x
Stuck step few within (chosen s) kept old failed x = StuckChosen step few s old failed x
Stuck step few within closing kept old failed x = StuckClosing step few old failed x
Stuck step few within lost kept old failed x = Unit {0}

-- A value has begun: what completes it, and that it is not next where this is not.
pub record Begun {S : Type 0} (step : S → Record → S → Type 0) (few within : S → S → S → Type 0) (s : Schema)
    (p : Pending) (old new : S) (before after : List Record) : Type 0 where
  pub done : (c : S) (more : List Record) → Ends step p new c after more → Told step s old c before more
  pub stuck : (failed : S) (x : DecodeError) → Stuck step few within p after new failed x
      → NoValue step few s old failed x

-- A value is read, or has begun and p is still to come.
abbrev pub Opens : {S : Type 0} → (S → Record → S → Type 0) → (S → S → S → Type 0) → (S → S → S → Type 0) → Schema
    → Option Pending → S → S → List Record → List Record → Type 0
Opens step few within s None old new before after = Told step s old new before after
Opens step few within s (Some p) old new before after = Begun step few within s p old new before after

-- What a turn of the walk leaves: nothing of what was still to come; the rest of it; or a value first, and then the
-- rest.
pub data Turn : Type 0 where
  ended : Turn
  again : Pending → Turn
  value : Pending → Schema → Turn

-- What is read from q on completes p; where q is not next, neither was p.
pub record Passes {S : Type 0} (step : S → Record → S → Type 0) (few within : S → S → S → Type 0) (p q : Pending)
    (old new : S) (before after : List Record) : Type 0 where
  pub done : (c : S) (more : List Record) → Ends step q new c after more → Ends step p old c before more
  pub stuck : (failed : S) (x : DecodeError) → Stuck step few within q after new failed x
      → Stuck step few within p before old failed x

-- The same once a value of type s was read; where none is next, p was not next.
pub record Awaits {S : Type 0} (step : S → Record → S → Type 0) (few within : S → S → S → Type 0) (p q : Pending)
    (s : Schema) (old new : S) (before after : List Record) : Type 0 where
  pub passes : (b : S) (more : List Record) → Told step s new b after more
      → Passes step few within p q old b before more
  pub stuck : (failed : S) (x : DecodeError) → NoValue step few s new failed x
      → Stuck step few within p before old failed x

-- What a turn from p has done, by what it leaves.
abbrev pub Turns : {S : Type 0} → (S → Record → S → Type 0) → (S → S → S → Type 0) → (S → S → S → Type 0) → Pending
    → Turn → S → S → List Record → List Record → Type 0
Turns step few within p ended old new before after = Ends step p old new before after
Turns step few within p (again q) old new before after = Passes step few within p q old new before after
Turns step few within p (value q s) old new before after = Awaits step few within p q s old new before after

-- A walk from start, where k was kept, has come to a state: what is still to come, the innermost first, completes a
-- value of the type s, and where it is not next there is no such value.
unfoldable pub Goes : {S : Type 0} → (S → Record → S → Type 0) → (S → S → S → Type 0) → (S → S → S → Type 0) → Schema
    → S → List Record → List Pending → S → List Record → Type 0
Goes step few within s start k [] now kept = Told step s start now k kept
Goes {S} step few within s start k (p ∷ ps) now kept =
    ((c : S) (more : List Record) → Ends step p now c kept more → Goes step few within s start k ps c more)
    × ((failed : S) (x : DecodeError) → Stuck step few within p kept now failed x → NoValue step few s start failed x)

-- Wherever a walk began, it has gone on: from this still to come to that.
pub record GoesOn {S : Type 0} (step : S → Record → S → Type 0) (few within : S → S → S → Type 0)
    (ps qs : List Pending) (old new : S) (before after : List Record) : Type 0 where
  pub goes : (s : Schema) (start : S) (k : List Record) → Goes step few within s start k ps old before
      → Goes step few within s start k qs new after

-- Wherever a walk began, it ends here: there is no value of its type.
pub record StuckFrom {S : Type 0} (step : S → Record → S → Type 0) (few within : S → S → S → Type 0)
    (ps : List Pending) (old failed : S) (before : List Record) (x : DecodeError) : Type 0 where
  pub none : (s : Schema) (start : S) (k : List Record) → Goes step few within s start k ps old before
      → NoValue step few s start failed x
