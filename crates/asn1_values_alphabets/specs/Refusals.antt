-- Why an alphabet cannot be made.
use Rattle.std.specs.Prelude.{ℕ, List}
use Rattle.std.specs.List.Sorted.{IsStrictlyIncreasing}
use Rattle.asn1_values_alphabets.specs.declared.error.PermittedAlphabetError.{PermittedAlphabetError}
use Rattle.asn1_values_alphabets.specs.declared.error.PermittedAlphabetError.TheVariants.{InvalidData, Memory}

-- the list does not ascend, or it ascends and memory ran out
abbrev pub IsRefusalOfList : List ℕ → PermittedAlphabetError → Type 0
IsRefusalOfList cs InvalidData = ¬ IsStrictlyIncreasing cs
IsRefusalOfList cs (Memory m) = IsStrictlyIncreasing cs
IsRefusalOfList cs e = ⊥
