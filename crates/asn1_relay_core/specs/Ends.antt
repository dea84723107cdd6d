-- What a call of a reader or of a writer does: octets that it gives or accepts, and failed calls, which are counted.
use Rattle.std.specs.Prelude.{◌≡◌, ℕ, ◌+◌, ◌<◌, ◌≤◌, List, ◌++◌, length, take, Option, Result, Ok, Err}
use Rattle.std.specs.Io.KnownBytes.{Appends, Consumes, IsAtEnd}

-- A failed call is counted.
abbrev pub failures_after : {A E : Type 0} → Result A E → ℕ → ℕ
failures_after (Ok a) n = n
failures_after (Err e) n = n + 1

-- A prefix of the octets is accepted after the earlier ones, if these are known.
abbrev pub BeginsToAppend : Option (List ℕ) → Option (List ℕ) → List ℕ → Type 0
BeginsToAppend old new octets = (front : List ℕ) × (back : List ℕ) × (front ++ back ≡ octets) × Appends old new front

-- A prefix of the room, of this length, is filled with the next octets. If the room is not empty, 0 means the end.
pub record Gives (old new : Option (List ℕ)) (room : List ℕ) (count : ℕ) : Type 0 where
  pub bound : count ≤ length room
  pub octets : Consumes old new (take count room)
  pub end : count ≡ 0 → 0 < length room → IsAtEnd new
