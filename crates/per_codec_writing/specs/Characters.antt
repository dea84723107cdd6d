-- Characters as units of one width (X.691 30.5).
use Rattle.std.specs.Prelude.{ℕ, ◌-◌, Bool, List, map}
use Rattle.asn1_model.specs.Numbers.{binary}
use Rattle.per_codec_alphabets.specs.Codes.{Coded, text_of}

-- The bits of each character's code.
abbrev pub field_lists_of : Coded → List ℕ → List (List Bool)
field_lists_of a cs = map (text_of a) cs

-- The low bits of a number minus `base`.
abbrev pub low_bits : ℕ → ℕ → ℕ → List Bool
low_bits base bits n = binary bits (n - base)
