-- The unread bits of a reader.
use Rattle.std.specs.Prelude.{ℕ, Bool, List}

-- the bits, and the bit of an octet at which they begin
pub record Unread : Type 0 where
  pub bits : List Bool
  pub offset : ℕ
