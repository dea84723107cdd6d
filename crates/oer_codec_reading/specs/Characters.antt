-- Characters as octets: two each, most significant first, or one each (X.696 27).
use Rattle.std.specs.Prelude.{ℕ, ◌+◌, ◌*◌, Bool, true, false, List, [], ◌∷◌, flat_map, Option, option_map}
use Rattle.asn1_model.specs.Numbers.{digits}

-- The number of octets of a character.
abbrev pub width : Bool → ℕ
width true = 2
width false = 1

-- The octets of characters.
abbrev pub octets_of_characters : Bool → List ℕ → List ℕ
octets_of_characters true cs = flat_map (digits 256 2) cs
octets_of_characters false cs = cs

-- Each two octets in sequence as one number.
abbrev pub pairs : List ℕ → List ℕ
pairs [] = []
pairs (o ∷ []) = []
pairs (o ∷ p ∷ os) = (o * 256 + p) ∷ pairs os

-- The characters in octets.
abbrev pub characters_in : Bool → List ℕ → List ℕ
characters_in true os = pairs os
characters_in false os = os

-- The number of octets of a fixed size, which counts characters.
abbrev pub octet_size : Bool → Option ℕ → Option ℕ
octet_size wide size = option_map (λ n. n * width wide) size
