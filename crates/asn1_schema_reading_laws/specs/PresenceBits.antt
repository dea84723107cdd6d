-- The bits of preambles and of presence bitmaps (X.691 19 and X.696 16).
use Rattle.std.specs.Prelude.{ℕ, zero, suc, Bool, true, false, ◌||◌, List, [], ◌∷◌, Option, Some, None}

-- The bits of a preamble: the extension bit, if there is one, and the presence bits (X.691 19.1 and 19.2, X.696 16.2).
abbrev pub preamble_bits : Option Bool → List Bool → List Bool
preamble_bits None ms = ms
preamble_bits (Some x) ms = x ∷ ms

-- The bits of a preamble whose extension bit, if there is one, is 0.
abbrev pub preamble : Bool → List Bool → List Bool
preamble true ms = false ∷ ms
preamble false ms = ms

-- The first bits, a given number of them; missing ones are 0.
abbrev pub first_bits : ℕ → List Bool → List Bool
first_bits zero bs = []
first_bits (suc n) [] = false ∷ first_bits n []
first_bits (suc n) (b ∷ bs) = b ∷ first_bits n bs

-- Whether any bit is 1.
abbrev pub is_any_set : List Bool → Bool
is_any_set [] = false
is_any_set (b ∷ bs) = b || is_any_set bs
