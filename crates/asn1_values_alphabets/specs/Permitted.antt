-- Which characters a string may hold, and the error for others (X.680 41).
use Rattle.std.specs.Prelude.{◌≡◌, ℕ, Bool, true, not, List, find, Option, Some, option_map}
use Rattle.asn1_model.specs.Schema.{StringKind}
use Rattle.asn1_model.specs.Strings.{characters_of, is_among}
use Rattle.std.specs.List.{list_all}
use Rattle.asn1_values_alphabets.specs.declared.error.InvalidRestrictedString.{InvalidRestrictedString}
use Rattle.asn1_values_alphabets.specs.declared.error.PermittedAlphabetError.{PermittedAlphabetError}
use Rattle.asn1_values_alphabets.specs.declared.error.PermittedAlphabetError.TheVariants as refusal

-- whether a string of this kind may hold the character
abbrev pub permits : StringKind → ℕ → Bool
permits k c = is_among (characters_of k) c

-- whether a string of this kind may hold these characters
abbrev pub permits_all : StringKind → List ℕ → Bool
permits_all k cs = list_all (permits k) cs

-- the first character that it may not hold
abbrev pub first_refused : StringKind → List ℕ → Option ℕ
first_refused k cs = find (λ c. not (permits k c)) cs

-- the error names the first character that is not permitted
abbrev pub IsOutside : StringKind → (ℕ → InvalidRestrictedString) → List ℕ → PermittedAlphabetError → Type 0
IsOutside k refused cs (refusal.InvalidRestrictedString e) = option_map refused (first_refused k cs) ≡ Some e
IsOutside k refused cs e = ⊥

-- or, if all are permitted, memory ran out
abbrev pub IsRefusalOf : StringKind → (ℕ → InvalidRestrictedString) → List ℕ → PermittedAlphabetError → Type 0
IsRefusalOf k refused cs (refusal.InvalidRestrictedString e) = option_map refused (first_refused k cs) ≡ Some e
IsRefusalOf k refused cs (refusal.Memory m) = permits_all k cs ≡ true
IsRefusalOf k refused cs e = ⊥
