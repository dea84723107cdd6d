-- Items of enumerations.
use Rattle.std.specs.Prelude.{◌≡◌, ◌≤◌, ℕ, ℤ, Bool, true, false, cond, List, [], ◌∷◌, length, Some, None, get_or}
use Rattle.asn1_model.specs.Normal.{item_index}
use Rattle.asn1_schema_tags.specs.declared.chosen.Chosen.{Chosen}

-- The items of an ENUMERATED by their numbers: those of the root items, whether there is an extension marker, and those
-- of the added items.
pub record ItemNumbers : Type 0 where
  pub roots : List ℤ
  pub extensible : Bool
  pub additions : List ℤ

-- Where the number of an item is: at an index among the root items, or, if the item is an added one, among those after
-- the extension marker and not in the root (X.680 20.4 to 20.6).
abbrev pub IsPlaced : List ℤ → Bool → List ℤ → ℤ → Bool → ℕ → Type 0
IsPlaced roots e others v false i = item_index v roots ≡ Some i
IsPlaced roots e others v true i = (item_index v roots ≡ None) × (e ≡ true) × (item_index v others ≡ Some i)

-- The number is in no table of the type.
abbrev pub IsNone : List ℤ → Bool → List ℤ → ℤ → Type 0
IsNone roots e others v = (item_index v roots ≡ None) × (e ≡ true → item_index v others ≡ None)

-- The number is that of an item.
abbrev pub IsItem : List ℤ → Bool → List ℤ → ℤ → Type 0
IsItem roots e others v = (added : Bool) × (i : ℕ) × IsPlaced roots e others v added i

-- There is no item with the index: it is past the end of its table.
abbrev pub NoItem : List ℤ → Bool → List ℤ → Chosen → Type 0
NoItem roots e others c = cond c.added (e ≡ true → length others ≤ c.place) (length roots ≤ c.place)

-- The name of the item with a number (X.680 20.1): the names are in the order of the numbers.
abbrev pub item_name : List ℤ → List (List ℕ) → ℤ → List ℕ
item_name numbers names v = elim (item_index v numbers) [ None ↦ [] | Some i ↦ get_or names i [] ]

-- None of these items has the name.
abbrev pub IsUnnamed : {A : Type 0} → (A → List ℕ) → List ℕ → List A → Type 0
IsUnnamed f name [] = Unit {0}
IsUnnamed f name (x ∷ xs) = (f x ≡ name → ⊥) × IsUnnamed f name xs
