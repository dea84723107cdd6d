-- Bits in octets.
use Rattle.std.specs.Prelude.{ℕ, ◌+◌, ◌-◌, ◌++◌, Bool, false, ◌||◌, List, [], ◌∷◌, length, replicate}
use Rattle.asn1_model.specs.Numbers.{missing}

-- bits padded with zero bits to whole octets
abbrev pub padded : List Bool → List Bool
padded bs = bs ++ replicate (missing (length bs)) false

-- the bitwise OR of two lists of bits, up to the end of the shorter one
abbrev pub ored : List Bool → List Bool → List Bool
ored (x ∷ xs) (y ∷ ys) = (x || y) ∷ ored xs ys
ored (x ∷ xs) [] = []
ored [] ys = []

-- bits at a position among zero bits, with a given total number of bits
abbrev pub placed : ℕ → List Bool → ℕ → List Bool
placed place bits total = replicate place false ++ (bits ++ replicate (total - (place + length bits)) false)
