-- The octets before those that an encoder writes.
use Rattle.std.specs.Prelude.{ℕ, List, []}

-- An encoder that starts empty has none.
abbrev pub no_front : {S : Type 0} → S → List ℕ
no_front e = []
