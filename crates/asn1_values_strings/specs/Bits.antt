-- Why bits are not characters of one octet.
use Rattle.std.specs.Prelude.{◌≡◌, ℕ, ◌%◌, ◌<◌, length, Bool, List, Some, option_map}
use Rattle.asn1_model.specs.Numbers.{packed}
use Rattle.asn1_model.specs.Schema.{StringKind}
use Rattle.asn1_values_alphabets.specs.Permitted.{first_refused}
use Rattle.asn1_values_alphabets.specs.declared.error.InvalidRestrictedString.{InvalidRestrictedString}
use Rattle.asn1_values_alphabets.specs.declared.error.PermittedAlphabetError.{PermittedAlphabetError}
use Rattle.asn1_values_alphabets.specs.declared.error.PermittedAlphabetError.TheVariants as refusal

-- bits are not whole octets, or the first octet that is not permitted is reported
abbrev pub IsRefusalOfBits : StringKind → (ℕ → InvalidRestrictedString) → List Bool → PermittedAlphabetError → Type 0
IsRefusalOfBits k refused bs refusal.InvalidData = 0 < length bs % 8
IsRefusalOfBits k refused bs (refusal.InvalidRestrictedString e) = (length bs % 8 ≡ 0)
    × (option_map refused (first_refused k (packed bs)) ≡ Some e)
IsRefusalOfBits k refused bs e = ⊥
