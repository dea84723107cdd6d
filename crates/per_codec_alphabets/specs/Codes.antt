-- Codes of the characters of strings in PER (X.691 30.5).
use Rattle.std.specs.Prelude.{◌≡◌, ℕ, ◌+◌, ◌-◌, ◌^◌, Bool, leb, ltb, ◌&&◌, cond, List, [], ◌∷◌, ◌++◌, filter, map}
use Rattle.std.specs.Prelude.{Option, Some, None, is_some, option_map, unwrap_or}
use Rattle.asn1_model.specs.Numbers.{binary}
use Rattle.asn1_model.specs.Schema.{StringKind}
use Rattle.asn1_model.specs.Strings.{Run, run, characters_of, is_among, how_many, largest, place_of, sorted}
pub use Rattle.asn1_values_alphabets.specs.Codes.{singles}
use Rattle.per_codec_alphabets.specs.declared.runs.CharacterRun.{CharacterRun}
use Rattle.per_codec_alphabets.specs.declared.single.CodedRun.{CodedRun}

-- A run of the code as one of the model.
abbrev pub run_of : CharacterRun → Run
run_of r = record { first = r.first; last = r.last }

-- The same for several runs.
abbrev pub runs_of : List CharacterRun → List Run
runs_of rs = map run_of rs

-- Those of the characters that a kind of string has (X.680 41 and 43).
abbrev pub kept : StringKind → List ℕ → List ℕ
kept k cs = filter (is_among (characters_of k)) cs

-- Runs of characters, and the bits of each character's code.
pub record Coded : Type 0 where
  pub runs : List Run
  pub code_bits : ℕ

-- The character at an index, from 0.
abbrev pub character_at : List Run → ℕ → Option ℕ
character_at [] i = None
character_at (r ∷ rs) i =
    cond (ltb i (r.last + 1 - r.first)) (Some (r.first + i)) (character_at rs (i - (r.last + 1 - r.first)))

-- The code of a character: its number if the largest one fits in the bits of a code, else its index (X.691 30.5.4).
abbrev pub code_of : Coded → ℕ → Option ℕ
code_of a c = option_map (λ i. cond (ltb (largest a.runs) (2 ^ a.code_bits)) c i) (place_of c a.runs)

-- The code of a character of a single run: its number minus the run's base.
abbrev pub code_in : CodedRun → ℕ → Option ℕ
code_in r c = cond (leb r.first c && leb c r.last) (Some (c - r.base)) None

-- Whether a character has a code.
abbrev pub has_code : Coded → ℕ → Bool
has_code a c = is_some (code_of a c)

-- The bits of a character's code; those of 0 if it has none.
abbrev pub text_of : Coded → ℕ → List Bool
text_of a c = binary a.code_bits (unwrap_or (code_of a c) 0)

-- The same characters at the same indices, perhaps in other runs.
pub record SameCharacters (rs ss : List Run) : Type 0 where
  pub many : how_many rs ≡ how_many ss
  pub greatest : largest rs ≡ largest ss
  pub places : (c : ℕ) → place_of c rs ≡ place_of c ss

-- They are those of these characters that a kind of string has, in ascending order, without duplicates (X.691 30.5).
abbrev pub AreKept : StringKind → List ℕ → List Run → Type 0
AreKept k cs rs = SameCharacters rs (singles (sorted (kept k cs)))

-- They are one character more than others.
abbrev pub HasOneMore : List Run → ℕ → List Run → Type 0
HasOneMore rs c new = SameCharacters new (rs ++ run c c ∷ [])
