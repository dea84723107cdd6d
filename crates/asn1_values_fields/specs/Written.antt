-- Fields as bits.
use Rattle.std.specs.Prelude.{ℕ, zero, suc, ◌^◌, ltb, leb, Bool, cond, ◌&&◌, List, [], ◌∷◌, ◌++◌, Option, Some, None}
use Rattle.std.specs.Prelude.{option_map, IsSome, ◌≡◌}
use Rattle.asn1_model.specs.Numbers.{binary, octet_bits, complement, signed_octets}
use Rattle.asn1_values_bits.specs.BitStr.{bits_of}
use Rattle.asn1_values_alphabets.specs.Codes.{CodedCharacters, code_of}
use Rattle.asn1_values_fields.specs.declared.field_bits.FieldBits.{FieldBits}
use Rattle.asn1_values_fields.specs.declared.field_bits.FieldBits.TheVariants.{Bits, Number, Octets, Whole, Characters}
use Rattle.asn1_values_fields.specs.declared.fault.FieldFaultKind.{FieldFaultKind}
use Rattle.asn1_values_fields.specs.declared.fault.FieldFaultKind.TheVariants.{DoesNotFit, Memory}

-- the concatenation of two lists, if both exist
abbrev pub both : Option (List Bool) → Option (List Bool) → Option (List Bool)
both (Some front) (Some rest) = Some (front ++ rest)
both (Some front) None = None
both None rest = None

-- the codes of characters, if each has one
abbrev pub codes_of : CodedCharacters → List ℕ → Option (List Bool)
codes_of a [] = Some []
codes_of a (c ∷ cs) = both (option_map (λ code. binary a.code_bits code) (code_of a c)) (codes_of a cs)

-- a number in a given count of binary digits, at most 128, if it fits
abbrev pub digits_of : ℕ → ℕ → Option (List Bool)
digits_of value width = cond (leb width 128 && ltb value (2 ^ width)) (Some (binary width value)) None

-- the bits of a field, if they are as many as it declares
abbrev pub bits_of_field : FieldBits → Option (List Bool)
bits_of_field (Bits b) = Some (bits_of b)
bits_of_field (Number value width) = digits_of value width
bits_of_field (Octets os) = Some (octet_bits os.now)
bits_of_field (Whole z) = Some (octet_bits (complement (signed_octets z.now) z.now))
bits_of_field (Characters a cs) = codes_of a.now cs.now

-- the concatenated bits of fields, if all fit
abbrev pub bits_of_fields : List FieldBits → Option (List Bool)
bits_of_fields [] = Some []
bits_of_fields (f ∷ fs) = both (bits_of_field f) (bits_of_fields fs)

-- bits followed by others, if these exist
abbrev pub appended : List Bool → Option (List Bool) → Option (List Bool)
appended before o = option_map (λ bs. before ++ bs) o

-- why a field is not written: it does not fit, or memory ran out
abbrev pub IsUnwritable : Option (List Bool) → FieldFaultKind → Type 0
IsUnwritable o DoesNotFit = o ≡ None
IsUnwritable o Memory = Unit {0}
IsUnwritable o k = ⊥

-- the first field that is not written, after fields that fit
abbrev pub IsFirstUnwritten : List FieldBits → ℕ → FieldFaultKind → Type 0
IsFirstUnwritten [] i k = ⊥
IsFirstUnwritten (f ∷ fs) zero k = IsUnwritable (bits_of_field f) k
IsFirstUnwritten (f ∷ fs) (suc i) k = IsSome (bits_of_field f) × IsFirstUnwritten fs i k
