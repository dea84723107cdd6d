-- What callers see of a reader and a writer in memory. If a call fails, a given number of calls precede it.
use Rattle.std.specs.Borrow.{GName}
use Rattle.std.specs.Prelude.{ℕ, ◌-◌, ◌==◌, List, Option, Some, None, if◌then◌else◌}

-- The octets that a reader in memory will still return, and how many of its calls have failed.
pub record Giving : Type 0 where
  pub coming : List ℕ
  pub fails_in : Option ℕ
  pub failed : ℕ

-- The octets that a writer in memory has accepted, and how many of its calls have failed.
pub record Taking : Type 0 where
  pub taken : List ℕ
  pub fails_in : Option ℕ
  pub failed : ℕ

-- How many calls precede the one that fails, after one more call: only that one fails.
abbrev pub one_call_on : Option ℕ → Option ℕ
one_call_on None = None
one_call_on (Some n) = if n == 0 then None else Some (n - 1)

-- They hold no borrow.
abbrev pub no_lender : Option GName
no_lender = None
