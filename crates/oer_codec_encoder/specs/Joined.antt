-- Octets in sequence, as the end of a bag appends those of its elements.
use Rattle.std.specs.Prelude.{ℕ, List, [], ◌∷◌, ◌++◌}

-- The octets of some texts in sequence.
abbrev pub texts_joined : List (List ℕ) → List ℕ
texts_joined [] = []
texts_joined (w ∷ ws) = w ++ texts_joined ws
