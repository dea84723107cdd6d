-- The characters of runs, one by one.
use Rattle.std.specs.Prelude.{◌≡◌, ℕ, ◌+◌, ◌-◌, ◌≤◌, leb, Bool, true, ◌&&◌, List, [], ◌∷◌, length, flat_map, take}
use Rattle.std.specs.List.{All, range_with_len}
use Rattle.asn1_model.specs.Strings.{Run}
use Rattle.per_codec_alphabets.specs.declared.runs.CharacterRun.{CharacterRun}

-- The characters of a run.
abbrev pub each_of : Run → List ℕ
each_of r = range_with_len r.first (r.last + 1 - r.first)

-- Those of several runs.
abbrev pub all_of : List Run → List ℕ
all_of rs = flat_map each_of rs

-- Whether the first run begins at `n` or later, and each other one after the end of the run before it.
abbrev pub begin_from : ℕ → List Run → Bool
begin_from n [] = true
begin_from n (r ∷ rs) = leb n r.first && begin_from (r.last + 1) rs

-- A run is not empty.
abbrev pub HasSome : CharacterRun → Type 0
HasSome r = r.first ≤ r.last

-- Of eight runs, the first `count` are not empty.
pub record AreFew (rs : List CharacterRun) (count : ℕ) : Type 0 where
  pub within : count ≤ 8
  pub eight : length rs ≡ 8
  pub some : All HasSome (take count rs)
