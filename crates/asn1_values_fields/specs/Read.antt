-- Bits as fields of given shapes.
use Rattle.std.specs.Prelude.{◌≡◌, ℕ, ℤ, zero, suc, ◌*◌, ◌^◌, ◌<◌, ◌≤◌, Bool, List, [], ◌∷◌, Some, length, take, drop}
use Rattle.asn1_model.specs.Numbers.{binary, octet_bits, complement, signed_octets}
use Rattle.asn1_values_alphabets.specs.Codes.{CodedCharacters, code_of}
use Rattle.asn1_values_fields.specs.Written.{codes_of}
use Rattle.asn1_values_fields.specs.declared.fault.FieldFaultKind.{FieldFaultKind}
use Rattle.asn1_values_fields.specs.declared.fault.FieldFaultKind.TheVariants.{DoesNotFit, Short, NotShortest}
use Rattle.asn1_values_fields.specs.declared.fault.FieldFaultKind.TheVariants.{NoCharacter, Memory}
use Rattle.asn1_values_fields.specs.declared.field_shape.FieldShape.{FieldShape}
use Rattle.asn1_values_fields.specs.declared.field_shape.FieldShape.TheVariants as shape
use Rattle.asn1_values_fields.specs.declared.field_shape.FieldValue.{FieldValue}
use Rattle.asn1_values_fields.specs.declared.field_shape.FieldValue.TheVariants as value

-- the number of bits that a field of a shape takes
abbrev pub width_of : FieldShape → ℕ
width_of (shape.Bits count) = count
width_of (shape.Number width) = width
width_of (shape.Octets count) = count * 8
width_of (shape.Whole count) = count * 8
width_of (shape.Characters alphabet count) = count * alphabet.now.code_bits

-- whether a value has a shape, and these are its bits
abbrev pub IsValueOf : FieldShape → FieldValue → List Bool → Type 0
IsValueOf (shape.Bits count) (value.Bits bits) w = (length bits ≡ count) × (w ≡ bits)
IsValueOf (shape.Number width) (value.Number n k) w = (width ≤ 128) × (k ≡ width) × (n < 2 ^ width)
    × (w ≡ binary width n)
IsValueOf (shape.Octets count) (value.Octets octets) w = (length octets.items ≡ count) × (w ≡ octet_bits octets.items)
IsValueOf (shape.Whole count) (value.Whole z) w = (signed_octets z ≡ count) × (w ≡ octet_bits (complement count z))
IsValueOf (shape.Characters alphabet count) (value.Characters cs) w = (length cs.items ≡ count)
    × (codes_of alphabet.now cs.items ≡ Some w)
IsValueOf s v w = ⊥

-- no integer has these bits as its shortest encoding, of the given number of octets (X.690 8.3.2)
abbrev pub AreNotFewest : ℕ → List Bool → Type 0
AreNotFewest count w = (z : ℤ) → signed_octets z ≡ count → w ≡ octet_bits (complement count z) → ⊥

-- bits are the code of a character
pub record HasCode (alphabet : CodedCharacters) (character : ℕ) (bits : List Bool) : Type 0 where
  pub code : ℕ
  pub is_code : code_of alphabet character ≡ Some code
  pub digits : bits ≡ binary alphabet.code_bits code

-- bits are not the code of any character
pub record IsUnknownCode (alphabet : CodedCharacters) (bits : List Bool) : Type 0 where
  pub code : ℕ
  pub fits : code < 2 ^ alphabet.code_bits
  pub digits : bits ≡ binary alphabet.code_bits code
  pub unknown : (c : ℕ) → code_of alphabet c ≡ Some code → ⊥

-- among a given number of codes, one is not the code of any character
pub record HasUnknownCode (alphabet : CodedCharacters) (count : ℕ) (bits : List Bool) : Type 0 where
  pub place : ℕ
  pub within : place < count
  pub there : IsUnknownCode alphabet (take alphabet.code_bits (drop (place * alphabet.code_bits) bits))

-- why a given number of characters cannot be read
abbrev pub AreUnreadable : CodedCharacters → ℕ → List Bool → FieldFaultKind → Type 0
AreUnreadable alphabet count bits NoCharacter = (count * alphabet.code_bits ≤ length bits)
    × HasUnknownCode alphabet count bits
AreUnreadable alphabet count bits Short = length bits < count * alphabet.code_bits
AreUnreadable alphabet count bits Memory = Unit {0}
AreUnreadable alphabet count bits k = ⊥

-- why a field of a shape cannot be read
abbrev pub IsUnreadable : FieldShape → List Bool → FieldFaultKind → Type 0
IsUnreadable (shape.Number width) bits DoesNotFit = 128 < width
IsUnreadable (shape.Number width) bits Short = (width ≤ 128) × (length bits < width)
IsUnreadable (shape.Whole count) bits NotShortest = (count * 8 ≤ length bits)
    × AreNotFewest count (take (count * 8) bits)
IsUnreadable (shape.Characters alphabet count) bits k = AreUnreadable alphabet.now count bits k
IsUnreadable s bits Short = length bits < width_of s
IsUnreadable s bits Memory = Unit {0}
IsUnreadable s bits k = ⊥

-- values of shapes, one after the other at the start of the bits, and the bits after them
abbrev pub AreValuesOf : List FieldShape → List FieldValue → List Bool → List Bool → Type 0
AreValuesOf [] [] bits rest = bits ≡ rest
AreValuesOf (s ∷ ss) (v ∷ vs) bits rest = (width_of s ≤ length bits) × IsValueOf s v (take (width_of s) bits)
    × AreValuesOf ss vs (drop (width_of s) bits) rest
AreValuesOf ss vs bits rest = ⊥

-- the first shape that cannot be read, after shapes that can
abbrev pub IsFirstUnread : List FieldShape → List Bool → ℕ → FieldFaultKind → Type 0
IsFirstUnread [] bits i k = ⊥
IsFirstUnread (s ∷ ss) bits zero k = IsUnreadable s bits k
IsFirstUnread (s ∷ ss) bits (suc i) k = ((v : FieldValue) × IsValueOf s v (take (width_of s) bits))
    × IsFirstUnread ss (drop (width_of s) bits) i k
