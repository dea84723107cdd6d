-- How many octets of a string or of an open type are missing.
use Rattle.std.specs.Prelude.{◌≤◌, ◌<◌, ℕ, ◌+◌, ◌/◌, List, ◌++◌, length, cond, Option, Some, None, option_map, Bool}
use Rattle.asn1_model.specs.Oer
use Rattle.asn1_model.specs.Schema.{Tag}
use Rattle.oer_codec_laws.specs.Takes.{Scope, State, Chooses, Enters}
use Rattle.oer_codec_reading.specs.Fronts.{Stands}

-- Octets of a fixed size, or counted by a length determinant (X.696 8.6): there are too few.
abbrev pub TooShort : (Oer.Freedom → Bool) → Option ℕ → List ℕ → Type 0
TooShort free (Some n) os = length os < n
TooShort free None os =
    (n : ℕ) × (rest : List ℕ) × Stands free (Oer.length_form n) os rest × (length rest < n)

-- There are still too few after n more.
abbrev pub StillTooShort : (Oer.Freedom → Bool) → Option ℕ → List ℕ → ℕ → Type 0
StillTooShort free size os n = (more : List ℕ) → 0 < n → length more ≤ n → TooShort free size (os ++ more)

-- The number of octets of a BIT STRING of a fixed size (X.696 13).
abbrev pub octets_of_bits : Option ℕ → Option ℕ
octets_of_bits size = option_map (λ n. (n + 7) / 8) size

-- A presence bitmap follows its length determinant, and is absent if the extension bit is 0 (X.696 16.4).
abbrev pub bitmap_size : Bool → Option ℕ
bitmap_size set = cond set None (Some 0)

-- An alternative, which is an open type if it is an added one (X.696 20), is not entered, nor after n more octets.
abbrev pub StillNoEntry : (Oer.Freedom → Bool) → Bool → List ℕ → ℕ → Type 0
StillNoEntry free plus os n =
    (more : List ℕ) → 0 < n → length more ≤ n → (k : List Scope) (b : State) → Enters free plus (os ++ more) k b → ⊥

-- No alternative of a choice is chosen, nor after n more octets.
abbrev pub StillNoChoice : (Oer.Freedom → Bool) → List Tag → Bool → List Tag → List ℕ → ℕ → Type 0
StillNoChoice free roots extensible others os n =
    (more : List ℕ) → 0 < n → length more ≤ n → (plus : Bool) (i : ℕ) (k : List Scope) (b : State)
    → Chooses free roots extensible others plus i (os ++ more, k) b → ⊥
