-- The upper bounds of a size that determine the form of a length determinant.
use Rattle.std.specs.Prelude.{ℕ, ltb, cond, Option, Some, None}

-- The upper bound, if it is below 65536: it then determines the form of the length determinant (X.691 11.9.4.1).
abbrev pub below_long_count : Option ℕ → Option ℕ
below_long_count None = None
below_long_count (Some high) = cond (ltb high 65536) (Some high) None
