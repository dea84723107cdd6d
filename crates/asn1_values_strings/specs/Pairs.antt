-- Why octets or bits are not characters of two octets.
use Rattle.std.specs.Prelude.{◌≡◌, ℕ, ◌%◌, ◌<◌, length, Bool, List}
use Rattle.asn1_values_alphabets.specs.declared.error.PermittedAlphabetError.{PermittedAlphabetError}
use Rattle.asn1_values_alphabets.specs.declared.error.PermittedAlphabetError.TheVariants.{InvalidData, Memory}

-- the number of octets is odd, or it is even and memory ran out
abbrev pub IsRefusalOfPairs : List ℕ → PermittedAlphabetError → Type 0
IsRefusalOfPairs os InvalidData = length os % 2 ≡ 1
IsRefusalOfPairs os (Memory m) = length os % 2 ≡ 0
IsRefusalOfPairs os e = ⊥

-- the bits are not whole pairs of octets, or they are and memory ran out
abbrev pub IsRefusalOfPairBits : List Bool → PermittedAlphabetError → Type 0
IsRefusalOfPairBits bs InvalidData = 0 < length bs % 16
IsRefusalOfPairBits bs (Memory m) = length bs % 16 ≡ 0
IsRefusalOfPairBits bs e = ⊥
