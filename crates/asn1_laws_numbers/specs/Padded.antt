-- Numbers in more octets than needed.
use Rattle.std.specs.Prelude.{◌≡◌, ℕ, ◌+◌, ◌-◌, ◌*◌, ◌^◌, ◌<◌, ◌≤◌, leb, ℤ, pos, negsuc, Bool, true, ◌&&◌, IsTrue, List}
use Rattle.std.specs.Prelude.{length, flat_map}
use Rattle.asn1_model.specs.Numbers.{binary, octet_width}
use Rattle.asn1_model.specs.Form.{Form, exactly, both, only_if, Reads}
use Rattle.asn1_model.specs.Strings.{is_octet}
use Rattle.std.specs.List.{list_all}
use Rattle.asn1_model.specs.Per
use Rattle.asn1_model.specs.Oer
use Rattle.std.specs.Int.Digits.{number_from_digits}

-- Octets encode a number in two's complement: their positional sum is the number, or the number plus 256 to the power
-- of their count (X.690 8.3, X.691 11.4, X.696 10).
abbrev pub StandsFor : List ℕ → ℤ → Type 0
StandsFor os (pos n) = (number_from_digits 256 os ≡ n) × (n < 2 ^ (8 * length os - 1))
StandsFor os (negsuc n) = (number_from_digits 256 os + (n + 1) ≡ 256 ^ length os) × (n < 2 ^ (8 * length os - 1))

-- A reader of a form accepts exactly the encodings of any octets, at least one, that encode the number.
abbrev pub IsReadAsAny : {F : Type 0} {D : F → Type 0} {A : Type 0} → (F → Bool) → Form F D A → (List ℕ → Form F D A)
    → (List ℕ → Type 0) → Type 0
IsReadAsAny {F} {D} {A} free x text IsOf =
    (p : ℕ) (w : List A) → (Reads free x p w → (os : List ℕ) × (0 < length os) × IsOf os × Reads free (text os) p w)
    × ((os : List ℕ) → 0 < length os → IsOf os → Reads free (text os) p w → Reads free x p w)

-- In OER, a reader that accepts more octets than needed accepts exactly the octets whose positional sum is the number.
abbrev pub OerNumbersAreSums : Type 0
OerNumbersAreSums =
    (free : Oer.Freedom → Bool) → IsTrue (free Oer.longer_number)
    → ((n : ℕ) → IsReadAsAny free (Oer.unsigned n) Oer.counted (λ os. number_from_digits 256 os ≡ n))
    × ((v : ℤ) → IsReadAsAny free (Oer.signed v) Oer.counted (λ os. StandsFor os v))

-- The same holds in PER, aligned or not.
abbrev pub PerNumbersAreSums : Type 0
PerNumbersAreSums =
    (free : Per.Freedom → Bool) (al : Bool) → IsTrue (free Per.longer_number)
    → ((n : ℕ) → IsReadAsAny free (Per.semi_constrained al n) (Per.counted_octets al)
    (λ os. number_from_digits 256 os ≡ n))
    × ((v : ℤ) → IsReadAsAny free (Per.unconstrained al v) (Per.counted_octets al) (λ os. StandsFor os v))

-- In the aligned variant, the octets of a number from 0 to span after their length, a constrained whole number from 1
-- to the octets of span (X.691 11.5.7.4 and 13.2.6).
abbrev pub behind_their_number : ℕ → List ℕ → Per.BitForm
behind_their_number span os = only_if (list_all is_octet os && leb (length os) (octet_width span))
    (both (Per.constrained true (octet_width span - 1) (length os - 1))
    (Per.at_octet true (exactly (flat_map (binary 8) os))))

-- The same holds in the aligned variant for a range of more than 65536 numbers: any octets whose positional sum is the
-- number, after their length.
abbrev pub PerRangesAreSums : Type 0
PerRangesAreSums =
    (free : Per.Freedom → Bool) → IsTrue (free Per.longer_number) → (span d : ℕ) → 65536 ≤ span → d ≤ span
    → IsReadAsAny free (Per.constrained true span d) (behind_their_number span) (λ os. number_from_digits 256 os ≡ d)
