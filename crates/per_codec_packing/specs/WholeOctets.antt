-- Field-lists in which whole octets precede each padding, so that it adds no bit (X.691 11.1).
use Rattle.std.specs.Prelude.{◌≡◌, ℕ, ◌%◌, ⊤, List, [], ◌∷◌}

-- Whole octets precede each padding, so that it adds no bit to a field-list by itself.
abbrev pub AreWhole : List ℕ → Type 0
AreWhole [] = ⊤
AreWhole (f ∷ fs) = (f % 8 ≡ 0) × AreWhole fs
