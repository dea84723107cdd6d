-- Lists of names.
use Rattle.std.specs.Prelude.{ℕ, List, Option, option_map, slice_get, string_bytes, String}
use Rattle.std.specs.Global.{Global}

-- The name at an index of a list, as its octets.
abbrev pub text_at : List (String Global) → ℕ → Option (List ℕ)
text_at names i = option_map string_bytes (slice_get names i)
