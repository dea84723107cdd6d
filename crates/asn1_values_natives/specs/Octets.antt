-- Integers as octets.
use Rattle.std.specs.Prelude.{ℕ, suc, ◌+◌, ◌-◌, ◌*◌, ◌^◌, ◌==◌, leb, ltb, ℤ, pos, negsuc, ◌-ℤ◌, Bool, true, false}
use Rattle.std.specs.Prelude.{cond, ◌&&◌, ◌||◌, List, [], ◌∷◌, length}
use Rattle.asn1_model.specs.Numbers.{digits, complement, signed_octets, least_octets}

-- the number that unsigned octets encode: each octet counts 256 to the power of the number of octets after it (X.690
-- 8.3.3, without a sign)
abbrev pub unsigned_number : List ℕ → ℕ
unsigned_number [] = 0
unsigned_number (o ∷ os) = o * 256 ^ length os + unsigned_number os

-- the integer that octets encode in two's complement: bit 8 of the first octet counts negative (X.690 8.3.3)
abbrev pub signed_number : List ℕ → ℤ
signed_number [] = pos 0
signed_number (o ∷ os) = pos (unsigned_number (o ∷ os)) -ℤ pos (cond (leb 128 o) (256 ^ suc (length os)) 0)

-- whether the first nine bits are all equal, so that the first octet is redundant (X.690 8.3.2)
abbrev pub is_padded : List ℕ → Bool
is_padded (a ∷ b ∷ os) = ((a == 0) && ltb b 128) || ((a == 255) && leb 128 b)
is_padded _ = false

-- an octet, complemented if the number is negative
abbrev pub sign_free : Bool → ℕ → ℕ
sign_free true o = 255 - o
sign_free false o = o

-- an integer by its sign and magnitude: m, or -1 - m
abbrev pub signed_by : Bool → ℕ → ℤ
signed_by true m = negsuc m
signed_by false m = pos m

-- the magnitude: m, or -1 - m of a negative m
abbrev pub plain : ℤ → ℕ
plain (pos m) = m
plain (negsuc m) = m

-- the fewest octets of a number that is not negative, at least one; for a negative number its fewest octets of two's
-- complement
abbrev pub unsigned_octets_of : ℤ → List ℕ
unsigned_octets_of (pos m) = digits 256 (least_octets m) m
unsigned_octets_of (negsuc m) = complement (signed_octets (negsuc m)) (negsuc m)

-- the fewest octets of an integer in two's complement (X.690 8.3.2 and 8.3.3)
abbrev pub signed_octets_of : ℤ → List ℕ
signed_octets_of z = complement (signed_octets z) z

-- whether the first octet holds only sign bits
abbrev pub is_leading : Bool → List ℕ → Bool
is_leading b (o ∷ os) = sign_free b o == 0
is_leading b [] = false

-- whether octets in two's complement encode a negative number
abbrev pub is_negative : List ℕ → Bool
is_negative (o ∷ os) = leb 128 o
is_negative [] = false

-- octets without a leading zero
abbrev pub plain_octets : List ℕ → List ℕ
plain_octets (o ∷ os) = cond (o == 0) os (o ∷ os)
plain_octets [] = []

-- the number that octets encode, signed or unsigned
abbrev pub own_number : Bool → List ℕ → ℤ
own_number true os = signed_number os
own_number false os = pos (unsigned_number os)

-- whether an integer is negative
abbrev pub is_below_zero : ℤ → Bool
is_below_zero (pos m) = false
is_below_zero (negsuc m) = true

-- unsigned octets as octets in two's complement
abbrev pub signed_from_plain : List ℕ → List ℕ
signed_from_plain os = cond (is_negative os) (0 ∷ os) os
