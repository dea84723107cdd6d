-- Numbers as digits, as octets in two's complement and as bits; the order of integers; ranges and sizes.
use Rattle.std.specs.Prelude.{ℕ, zero, suc, ◌+◌, ◌-◌, ◌/◌, ◌%◌, ◌^◌, ◌==◌, leb, max, ℤ, pos, negsuc, ◌-ℤ◌, Bool, true}
use Rattle.std.specs.Prelude.{false, cond, ◌&&◌, ◌||◌, List, [], ◌∷◌, map, flat_map, Option, Some, None}
use Rattle.std.specs.Option.{option_map_or}
use Rattle.std.specs.Int.Digits.{number_from_digits}
use Rattle.asn1_model.specs.Schema.{Range, Counts, Size}

-- The given count of digits of a number to a base, the most significant first.
abbrev pub digits : ℕ → ℕ → ℕ → List ℕ
digits base zero n = []
digits base (suc w) n = n / base ^ w % base ∷ digits base w n

-- The count of digits of a number, 0 having none; at most a given count.
unfoldable pub places_up_to : ℕ → ℕ → ℕ → ℕ
places_up_to zero base n = 0
places_up_to (suc most) base n = elim (n == 0) [ true ↦ 0 | false ↦ suc (places_up_to most base (n / base)) ]

-- The count of digits of a number to a base, 0 having none.
abbrev pub places : ℕ → ℕ → ℕ
places base n = places_up_to n base n

-- The fewest bits that hold the numbers up to n (X.691 11.5).
abbrev pub width : ℕ → ℕ
width n = places 2 n

abbrev pub octet_width : ℕ → ℕ
octet_width n = places 256 n

-- The fewest octets of a number, at least one (X.691 11.3, X.696 10).
abbrev pub least_octets : ℕ → ℕ
least_octets n = max 1 (octet_width n)

-- The given count of bits of a number, the most significant first (X.691 11.3).
abbrev pub binary : ℕ → ℕ → List Bool
binary zero n = []
binary (suc w) n = (n / 2 ^ w % 2 == 1) ∷ binary w n

-- The fewest octets of two's complement that hold an integer (X.691 11.4, X.696 10).
abbrev pub signed_octets : ℤ → ℕ
signed_octets (pos m) = width m / 8 + 1
signed_octets (negsuc m) = width m / 8 + 1

-- The given count of octets of an integer in two's complement (X.691 11.4, X.696 10).
abbrev pub complement : ℕ → ℤ → List ℕ
complement k (pos m) = digits 256 k m
complement k (negsuc m) = digits 256 k (256 ^ k - 1 - m)

-- A number minus a lower bound, if it is not below it.
abbrev pub above : ℤ → ℤ → Option ℕ
above low v = elim (v -ℤ low) [ pos n ↦ Some n | negsuc n ↦ None ]

-- Whether the first is at most the second.
abbrev pub is_at_most : ℤ → ℤ → Bool
is_at_most a b = elim (b -ℤ a) [ pos n ↦ true | negsuc n ↦ false ]

-- Whether a number is in a range (X.680 51.4).
abbrev pub is_within : Range → ℤ → Bool
is_within r v =
    option_map_or (λ low. is_at_most low v) r.low true && option_map_or (λ high. is_at_most v high) r.high true

-- Whether a count is within these (X.680 51.5).
abbrev pub is_count_within : Counts → ℕ → Bool
is_count_within c n = leb c.low n && option_map_or (λ high. leb n high) c.high true

-- Whether the highest count is the lowest.
abbrev pub is_fixed_at : Counts → Option ℕ → Bool
is_fixed_at c o = option_map_or (λ high. high == c.low) o false

-- Whether the user-defined type holds a length and the size admits it; a size with an extension marker admits any.
abbrev pub admits : Size → Counts → ℕ → Bool
admits z held n = is_count_within held n && (z.extensible || is_count_within z.counts n)

-- Whether 128 bits of two's complement hold a number. Under a value constraint, numbers outside are not encoded, by
-- this project's choice.
abbrev pub fits_128 : ℤ → Bool
fits_128 v = leb (signed_octets v) 16

-- The number of bits missing to whole octets.
abbrev pub missing : ℕ → ℕ
missing p = (8 - p % 8) % 8

-- Bits in groups of eight, the last one possibly shorter.
abbrev pub by_eights : List Bool → List (List Bool)
by_eights (a ∷ b ∷ c ∷ d ∷ e ∷ f ∷ g ∷ h ∷ rest) = (a ∷ b ∷ c ∷ d ∷ e ∷ f ∷ g ∷ h ∷ []) ∷ by_eights rest
by_eights [] = []
by_eights bs = bs ∷ []

-- Bits as octets, the first bit as the most significant (X.691 11.1); fewer than eight at the end are the number that
-- they encode.
abbrev pub packed : List Bool → List ℕ
packed bs = map (λ o. number_from_digits 2 (map (λ b. cond b 1 0) o)) (by_eights bs)

abbrev pub octet_bits : List ℕ → List Bool
octet_bits os = flat_map (binary 8) os
