-- The nested levels left to a decoder, from record to record: one fewer inside each SEQUENCE OF, SET OF, SEQUENCE,
-- SET, group and CHOICE.
use Rattle.std.specs.Prelude.{◌≡◌, ◌≤◌, ◌↔◌, ℕ, zero, suc, cond, ltb, leb, List, [], ◌∷◌, ◌++◌, Option, Some, None}
use Rattle.std.specs.Prelude.{option_and_then}
use Rattle.asn1_model.specs.Value.{Value, depth}
use Rattle.asn1_model.specs.Schema.{Schema}
use Rattle.asn1_schema_laws.specs.Records.{Record, list_begins, bag_begins, sequence_begins, set_begins}
use Rattle.asn1_schema_laws.specs.Records.{group_begins, choice_begins, ends}
use Rattle.asn1_schema_laws.specs.Presents.{presents, Fits}
use Rattle.asn1_schema_laws.specs.Chains.{Chain}

-- One level fewer inside; none can be entered if no level is left.
abbrev pub inside : ℕ → Option ℕ
inside zero = None
inside (suc l) = Some l

-- One level more outside again, but at most the initial number.
abbrev pub outside : ℕ → ℕ → Option ℕ
outside most l = cond (ltb l most) (Some (suc l)) None

-- The levels that are left after a record.
abbrev pub level : ℕ → Record → ℕ → Option ℕ
level most (list_begins z h n) l = inside l
level most (bag_begins z h n) l = inside l
level most (sequence_begins e n) l = inside l
level most (set_begins e n) l = inside l
level most (group_begins n) l = inside l
level most (choice_begins roots e others plus i) l = inside l
level most ends l = outside most l
level most r l = Some l

-- The levels that are left after several records.
abbrev pub levels : ℕ → List Record → ℕ → Option ℕ
levels most [] l = Some l
levels most (r ∷ rs) l = option_and_then (λ m. levels most rs m) (level most r l)

-- The levels before and after a record, as a relation.
abbrev pub Level : ℕ → ℕ → Record → ℕ → Type 0
Level most a r b = level most r a ≡ Some b

-- The records of a value are accepted exactly if at least its number of nested levels is left, whatever follows.
abbrev pub LowersAt : Schema → Value → Type 0
LowersAt s v = (most l : ℕ) (rest : List Record) → l ≤ most → levels most (presents s v ++ rest) l
    ≡ cond (leb (depth v) l) (levels most rest l) None

abbrev pub Lowers : Type 0
Lowers = (s : Schema) (v : Value) → Fits s v → LowersAt s v

-- So a chain of them starts at l levels exactly if the number of nested levels of the value is at most l, and ends at
-- l.
abbrev pub Nests : Type 0
Nests = (s : Schema) (v : Value) (most l m : ℕ) → Fits s v → l ≤ most → Chain (Level most) (presents s v) l m
    ↔ ((depth v ≤ l) × (m ≡ l))

-- Two relations combined: that of a decoder, and that of its levels.
abbrev pub Both : {A B : Type 0} → (A → Record → A → Type 0) → (B → Record → B → Type 0) → A × B → Record → A × B
    → Type 0
Both f g a r b = f a.0 r b.0 × g a.1 r b.1
