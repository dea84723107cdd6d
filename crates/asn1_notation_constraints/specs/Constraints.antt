-- What PER and OER see of constraints (X.680 50 to 52, X.691 10.3, X.696 8.2).
use Rattle.std.specs.Prelude.{◌≡◌, ℕ, ltb, ℤ, Bool, true, false, ◌&&◌, List}
use Rattle.std.specs.Prelude.{[], ◌∷◌, ◌++◌, length, Option, Some, None, ⊤}
use Rattle.std.specs.Prelude.{◌<◌, take, slice_index_or, slice_get}
use Rattle.std.specs.List.{list_all, list_any}
use Rattle.asn1_notation_intervals.specs.Ends.{is_between}
use Rattle.asn1_notation_constraints.specs.declared.constraints.ConstraintError.{ConstraintError}
use Rattle.asn1_notation_constraints.specs.declared.constraints.ConstraintError.TheVariants.{PartOutOfPlace}
use Rattle.asn1_notation_constraints.specs.declared.constraints.ConstraintError.TheVariants.{PartMissing}
use Rattle.asn1_notation_constraints.specs.declared.constraints.ConstraintError.TheVariants.{OutOfMemory}
use Rattle.asn1_notation_constraints.specs.declared.constraints.ConstraintTerm.{ConstraintTerm}
use Rattle.asn1_notation_constraints.specs.declared.constraints.ConstraintTerm.TheVariants.{Range, Hidden}
use Rattle.asn1_notation_constraints.specs.declared.constraints.ConstraintTerm.TheVariants.{Union, Intersection}
use Rattle.asn1_notation_constraints.specs.declared.constraints.ConstraintTerm.TheVariants.{Except, AllExcept}
use Rattle.asn1_notation_constraints.specs.declared.constraints.ConstraintTerm.TheVariants.{Extensible}
use Rattle.asn1_notation_constraints.specs.declared.constraints.Visible.{Visible}

-- ---- a table of parts, each of which names earlier ones

-- What each part of a table says, from what the parts before it say.
abbrev pub each_in_turn : {X : Type 0} → (List X → ConstraintTerm → X) → List X → List ConstraintTerm → List X
each_in_turn f said [] = said
each_in_turn f said (t ∷ ts) = each_in_turn f (said ++ f said t ∷ []) ts

-- All indices are below one.
abbrev pub are_below : ℕ → List ℕ → Bool
are_below n is = list_all (λ i. ltb i n) is

abbrev pub is_below : ℕ → Option ℕ → Bool
is_below n None = true
is_below n (Some i) = ltb i n

-- A part names only parts before an index.
abbrev pub refers_back : ℕ → ConstraintTerm → Bool
refers_back n (Range i) = true
refers_back n Hidden = true
refers_back n (Union is) = are_below n is.items
refers_back n (Intersection is) = are_below n is.items
refers_back n (Except i j) = ltb i n && ltb j n
refers_back n (AllExcept i) = ltb i n
refers_back n (Extensible root additions) = ltb root n && is_below n additions

-- ---- the numbers

-- A part at an index admits a number, by which of them do.
abbrev pub at : List Bool → ℕ → Bool
at admitted i = slice_index_or admitted i false

-- A part of a constraint admits a number in its root, as far as PER and OER see (X.691 10.3, X.696 8.2), by
-- which of the earlier parts do: a part that is not visible admits all; EXCEPT and what follows it are ignored;
-- so ALL EXCEPT admits all; and of what has an extension marker, the root counts (X.680 52).
abbrev pub admits : ℤ → List Bool → ConstraintTerm → Bool
admits z admitted (Range i) = is_between i z
admits z admitted Hidden = true
admits z admitted (Union is) = list_any (at admitted) is.items
admits z admitted (Intersection is) = list_all (at admitted) is.items
admits z admitted (Except i j) = at admitted i
admits z admitted (AllExcept i) = true
admits z admitted (Extensible root additions) = at admitted root

-- Constraints that are applied one after the other all admit a number (X.680 50.8).
abbrev pub effectively_admits : ℤ → List ConstraintTerm → List ℕ → Bool
effectively_admits z ts cs = list_all (at (each_in_turn (admits z) [] ts)) cs

-- ---- visibility

-- Whether a part is visible, and whether it then has an extension marker.
pub record Sight : Type 0 where
  pub is_visible : Bool
  pub is_extensible : Bool

abbrev pub unseen : Sight
unseen = record { is_visible = false; is_extensible = false }

abbrev pub plainly_seen : Sight
plainly_seen = record { is_visible = true; is_extensible = false }

abbrev pub sight_at : List Sight → ℕ → Sight
sight_at seen i = slice_index_or seen i unseen

abbrev pub all_visible : List Sight → List ℕ → Bool
all_visible seen is = list_all (λ i. (sight_at seen i).is_visible) is

abbrev pub any_visible : List Sight → List ℕ → Bool
any_visible seen is = list_any (λ i. (sight_at seen i).is_visible) is

abbrev pub any_extensible : List Sight → List ℕ → Bool
any_extensible seen is = list_any (λ i. (sight_at seen i).is_extensible) is

-- A union is visible where all its parts are (X.691 10.3, X.696 8.2), and then extensible where one of them is.
abbrev pub union_sight : List Sight → List ℕ → Sight
union_sight seen is = record {
  is_visible = all_visible seen is;
  is_extensible = all_visible seen is && any_extensible seen is;
}

-- An intersection is visible where one of its parts is: the others are ignored (X.691 10.3, X.696 8.2). It is
-- extensible where one of them is.
abbrev pub meet_sight : List Sight → List ℕ → Sight
meet_sight seen is = record {
  is_visible = any_visible seen is;
  is_extensible = any_extensible seen is;
}

-- How a part is seen, by how the earlier parts are: EXCEPT and what follows it are ignored (X.691 10.3, X.696 8.2).
abbrev pub sight : List Sight → ConstraintTerm → Sight
sight seen (Range i) = plainly_seen
sight seen Hidden = unseen
sight seen (Union is) = union_sight seen is.items
sight seen (Intersection is) = meet_sight seen is.items
sight seen (Except i j) = sight_at seen i
sight seen (AllExcept i) = plainly_seen
sight seen (Extensible root additions) = record {
  is_visible = (sight_at seen root).is_visible;
  is_extensible = (sight_at seen root).is_visible;
}

-- The last of some constraints is extensible.
abbrev pub ends_extensible : List Sight → List ℕ → Bool
ends_extensible seen [] = false
ends_extensible seen (c ∷ []) = (sight_at seen c).is_extensible
ends_extensible seen (c ∷ d ∷ cs) = ends_extensible seen (d ∷ cs)

-- How constraints that are applied one after the other are seen: an extension marker counts only in the last one
-- (X.680 50.8), and only where this is visible (X.691 10.3).
abbrev pub effective_sight : List ConstraintTerm → List ℕ → Sight
effective_sight ts cs =
    let seen = each_in_turn sight [] ts in
    record {
      is_visible = any_visible seen cs;
      is_extensible = ends_extensible seen cs;
    }

-- What a function answered of it.
abbrev pub sight_of : Visible → Sight
sight_of v = record { is_visible = v.is_visible; is_extensible = v.is_extensible }

-- ---- errors

-- The parts before an index name earlier ones.
abbrev pub AreInPlace : List ConstraintTerm → ℕ → Type 0
AreInPlace ts n = (k : ℕ) (t : ConstraintTerm) → k < n → slice_get ts k ≡ Some t → refers_back k t ≡ true

-- The first part that names one which is not before it.
abbrev pub IsTableError : List ConstraintTerm → ConstraintError → Type 0
IsTableError ts (PartOutOfPlace n) =
    AreInPlace ts n × ((t : ConstraintTerm) × (slice_get ts n ≡ Some t) × (refers_back n t ≡ false))
IsTableError ts (PartMissing n) = ⊥
IsTableError ts OutOfMemory = ⊤

-- The first constraint that names no part.
abbrev pub IsMissing : ℕ → List ℕ → ℕ → Type 0
IsMissing count cs n =
    (are_below count (take n cs) ≡ true) × ((c : ℕ) × (slice_get cs n ≡ Some c) × (ltb c count ≡ false))

-- What is wrong with parts; or, where nothing is, with the constraints that name them.
abbrev pub IsConstraintError : List ConstraintTerm → List ℕ → ConstraintError → Type 0
IsConstraintError ts cs (PartOutOfPlace n) = IsTableError ts (PartOutOfPlace n)
IsConstraintError ts cs (PartMissing n) = AreInPlace ts (length ts) × IsMissing (length ts) cs n
IsConstraintError ts cs OutOfMemory = ⊤
