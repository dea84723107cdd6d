-- Laws of numbers as digits, octets and bits.
use Rattle.std.specs.Prelude.{◌≡◌, ℕ, ◌+◌, ◌-◌, ◌*◌, ◌^◌, ◌==◌, ◌<◌, ◌≤◌, ltb, pos, negsuc, Bool, IsTrue, List, length}
use Rattle.std.specs.Prelude.{map}
use Rattle.asn1_model.specs.Numbers.{digits, places, least_octets, signed_octets, complement, binary}
use Rattle.asn1_model.specs.Numbers.{packed, octet_bits}
use Rattle.std.specs.Str.{IsUtf8}
use Rattle.asn1_model.specs.Schema.{utf8}
use Rattle.asn1_model.specs.Strings.{may_hold, is_octet, identifier_octets, is_identifier}
use Rattle.std.specs.List.{list_all}
use Rattle.asn1_model.specs.Form.{stands_before}
use Rattle.asn1_model.specs.Per.{bit_less}
use Rattle.std.specs.Int.Digits.{number_from_digits}

-- A number that fits a given count of digits is the positional sum of that many digits, each below the base.
abbrev pub DigitsAreASum : Type 0
DigitsAreASum =
    (base w n : ℕ) → 0 < base → n < base ^ w → (number_from_digits base (digits base w n) ≡ n)
    × (length (digits base w n) ≡ w) × IsTrue (list_all (λ d. ltb d base) (digits base w n))

-- The fewest digits that hold a number are as many as it has; no fewer do.
abbrev pub FewestDigits : Type 0
FewestDigits = (base n : ℕ) → 1 < base → (n < base ^ places base n) × ((k : ℕ) → n < base ^ k → places base n ≤ k)

-- Octets in two's complement are a positional sum: of the number, or of the number plus the power of 256 that they
-- leave out.
abbrev pub ComplementIsASum : Type 0
ComplementIsASum =
    (k n : ℕ) → 0 < k → n < 2 ^ (8 * k - 1) → (number_from_digits 256 (complement k (pos n)) ≡ n)
    × (number_from_digits 256 (complement k (negsuc n)) + (n + 1) ≡ 256 ^ k) × (length (complement k (pos n)) ≡ k)
    × (length (complement k (negsuc n)) ≡ k)

-- The octets of a number, unsigned or in two's complement, are the fewest that hold it, and at least one.
abbrev pub FewestOctets : Type 0
FewestOctets =
    (n k : ℕ) → 0 < k → ((least_octets n ≤ k → n < 256 ^ k) × (n < 256 ^ k → least_octets n ≤ k))
    × ((signed_octets (pos n) ≤ k → n < 2 ^ (8 * k - 1)) × (n < 2 ^ (8 * k - 1) → signed_octets (pos n) ≤ k))
    × ((signed_octets (negsuc n) ≤ k → n < 2 ^ (8 * k - 1)) × (n < 2 ^ (8 * k - 1) → signed_octets (negsuc n) ≤ k))

-- The bits of a number are its digits to base 2.
abbrev pub BitsAreDigits : Type 0
BitsAreDigits = (w n : ℕ) → binary w n ≡ map (λ d. d == 1) (digits 2 w n)

-- Bits determine their octets, and octets determine their bits.
abbrev pub OctetsAndBits : Type 0
OctetsAndBits =
    ((os : List ℕ) → IsTrue (list_all is_octet os) → packed (octet_bits os) ≡ os)
    × ((k : ℕ) (bs : List Bool) → length bs ≡ 8 * k → (octet_bits (packed bs) ≡ bs) × (length (packed bs) ≡ k)
    × IsTrue (list_all is_octet (packed bs)))

-- The octets of an object identifier determine it.
abbrev pub IdentifiersAreTold : Type 0
IdentifiersAreTold =
    (ns ms : List ℕ) → IsTrue (is_identifier ns) → IsTrue (is_identifier ms)
    → identifier_octets ns ≡ identifier_octets ms → ns ≡ ms

-- A UTF8String may hold exactly what a `str` of std may: the octets of some characters.
abbrev pub Utf8IsText : Type 0
Utf8IsText = (os : List ℕ) → (IsTrue (may_hold utf8 os) → IsUtf8 os) × (IsUtf8 os → IsTrue (may_hold utf8 os))

-- Octets have the same order as their bits.
abbrev pub OctetsStandAsBits : Type 0
OctetsStandAsBits =
    (os ps : List ℕ) → IsTrue (list_all is_octet os) → IsTrue (list_all is_octet ps)
    → stands_before bit_less (octet_bits os) (octet_bits ps) ≡ stands_before ltb os ps
