-- Lines and columns.
use Rattle.std.specs.Prelude.{◌+◌, ℕ, List, Bool, not, ◌==◌, ◌||◌, nat_lt, nat_le, take, reverse}
use Rattle.std.specs.List.{count_by, take_while}

-- The number of the line in which the octet at an index is: one more than the line feeds before it.
abbrev pub line_at : List ℕ → ℕ → ℕ
line_at text i = 1 + count_by (λ c. c == 10) (take i text)

-- Whether an octet begins a character of UTF-8.
abbrev pub begins_character : ℕ → Bool
begins_character c = nat_lt c 128 || nat_le 192 c

-- The number of its character in the line: one more than the characters between the last line feed and the octet.
abbrev pub column_at : List ℕ → ℕ → ℕ
column_at text i = 1 + count_by begins_character (take_while (λ c. not (c == 10)) (reverse (take i text)))
