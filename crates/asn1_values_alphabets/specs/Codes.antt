-- Codes of permitted characters (X.691 30.5).
use Rattle.std.specs.Prelude.{ℕ, ◌-◌, ◌^◌, ◌≡◌, ◌≤◌, ltb, leb, Bool, cond, List, length, map, Option, option_map}
use Rattle.std.specs.List.Sorted.{IsStrictlyIncreasing}
use Rattle.asn1_model.specs.Numbers.{width}
use Rattle.asn1_model.specs.Per.{raised}
use Rattle.asn1_model.specs.Strings.{Run, run, how_many, largest, place_of}

-- permitted characters in ascending order, and the width of a code in bits
pub record CodedCharacters : Type 0 where
  pub characters : List ℕ
  pub code_bits : ℕ

-- each character as a run of one
abbrev pub singles : List ℕ → List Run
singles cs = map (λ c. run c c) cs

-- a width raised to 1, 2, 4, 8, 16 or 32; 0 stays 0 (X.691 30.5.2)
abbrev pub raised_width : ℕ → ℕ
raised_width b = cond (leb b 16) (raised b) 32

-- the width of a code for these characters (X.691 30.5.2)
abbrev pub code_width : Bool → List ℕ → ℕ
code_width is_raised cs =
    let b = width (how_many (singles cs) - 1) in
    cond is_raised (raised_width b) b

-- the code of a character: its value if the largest value fits the width, else its index (X.691 30.5.4)
abbrev pub code_of : CodedCharacters → ℕ → Option ℕ
code_of a c = option_map (λ i. cond (ltb (largest (singles a.characters)) (2 ^ a.code_bits)) c i)
    (place_of c (singles a.characters))

-- ascending characters, and a width that has a code for each of them
pub record IsCoded (characters : List ℕ) (code_bits : ℕ) (is_by_number : Bool) : Type 0 where
  pub ascending : IsStrictlyIncreasing characters
  pub enough : length characters ≤ 2 ^ code_bits
  pub narrow : code_bits ≤ 32
  pub by_number : is_by_number ≡ ltb (largest (singles characters)) (2 ^ code_bits)
