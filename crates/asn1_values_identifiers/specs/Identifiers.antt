-- Object identifiers, and their contents octets.
use Rattle.std.specs.Prelude.{ℕ, ◌+◌, ◌-◌, ◌*◌, ◌/◌, ◌^◌, ◌==◌, ltb, leb, Bool, true, false, ◌&&◌, ◌||◌, List, []}
use Rattle.std.specs.Prelude.{◌∷◌, ◌++◌, Option, Some, None, Result, Ok, Err}
use Rattle.asn1_values_identifiers.specs.declared.fault.IdentifierError.{IdentifierError}
use Rattle.asn1_values_identifiers.specs.declared.fault.IdentifierError.TheVariants.{Truncated, Padded, ArcTooLarge}

-- whether arcs are valid: there is at least one, the first is at most 2, and if it is below 2, the second is at most
-- 39 (X.660 A.2)
abbrev pub is_valid : List ℕ → Bool
is_valid [] = false
is_valid (a ∷ []) = leb a 2
is_valid (a ∷ b ∷ rest) = leb a 2 && (a == 2 || ltb b 40)

-- prepends a number to what has been read
abbrev pub in_front : ℕ → Result (List ℕ) IdentifierError → Result (List ℕ) IdentifierError
in_front n (Ok ns) = Ok (n ∷ ns)
in_front n (Err e) = Err e

-- the number that the octets of an unfinished subidentifier encode; 0 if none is begun
abbrev pub begun_number : Option ℕ → ℕ
begun_number None = 0
begun_number (Some n) = n

-- whether a subidentifier begins with an octet of seven zero bits (X.690 8.19.2)
abbrev pub is_padding : Option ℕ → ℕ → Bool
is_padding None o = o == 128
is_padding (Some n) o = false

-- a number whose last octet has been read
abbrev pub ended : ℕ → ℕ → Result (List ℕ) IdentifierError → Result (List ℕ) IdentifierError
ended limit n further = elim (ltb n limit) [ true ↦ in_front n further | false ↦ Err ArcTooLarge ]

-- the numbers that octets encode, the first below a limit and the others below 2 ^ 32, or the error of the first that
-- is wrong (X.690 8.19.2)
abbrev pub subidentifiers : ℕ → Option ℕ → List ℕ → Result (List ℕ) IdentifierError
subidentifiers limit None [] = Ok []
subidentifiers limit (Some n) [] = Err Truncated
subidentifiers limit begun (o ∷ os) =
    elim (is_padding begun o) [
      | true ↦ Err Padded
      | false ↦
          elim (ltb o 128) [
            | true ↦ ended limit (begun_number begun * 128 + o) (subidentifiers (2 ^ 32) None os)
            | false ↦ subidentifiers limit (Some (begun_number begun * 128 + (o - 128))) os
          ]
    ]

-- the two arcs that share the first subidentifier (X.690 8.19.4)
abbrev pub first_arc : ℕ → ℕ
first_arc n = elim (ltb n 80) [ true ↦ n / 40 | false ↦ 2 ]

abbrev pub second_arc : ℕ → ℕ
second_arc n = n - 40 * first_arc n

abbrev pub arcs_from : Result (List ℕ) IdentifierError → Result (List ℕ) IdentifierError
arcs_from (Ok (n ∷ ns)) = Ok (first_arc n ∷ second_arc n ∷ ns)
arcs_from (Ok []) = Err Truncated
arcs_from (Err e) = Err e

-- the arcs of contents octets (X.690 8.19), or the error of the first wrong subidentifier
abbrev pub arcs_of : List ℕ → Result (List ℕ) IdentifierError
arcs_of os = arcs_from (subidentifiers (2 ^ 32 + 80) None os)

-- appends what has been read to arcs that were read before
abbrev pub joined : List ℕ → Result (List ℕ) IdentifierError → Result (List ℕ) IdentifierError
joined xs (Ok ns) = Ok (xs ++ ns)
joined xs (Err e) = Err e
