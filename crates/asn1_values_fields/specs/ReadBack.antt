-- Written fields, and the values read from them.
use Rattle.std.specs.Prelude.{◌≡◌, ℕ, ◌^◌, ◌<◌, ◌≤◌, List, [], ◌∷◌, length}
use Rattle.std.specs.List.{AllByRecursion}
use Rattle.std.specs.List.Sorted.{IsStrictlyIncreasing}
use Rattle.asn1_model.specs.Numbers.{signed_octets}
use Rattle.asn1_values_bits.specs.BitStr.{bits_of}
use Rattle.asn1_values_fields.specs.declared.field_bits.FieldBits.{FieldBits}
use Rattle.asn1_values_fields.specs.declared.field_bits.FieldBits.TheVariants.{Bits, Number, Octets, Whole, Characters}
use Rattle.asn1_values_fields.specs.declared.field_shape.FieldShape.{FieldShape}
use Rattle.asn1_values_fields.specs.declared.field_shape.FieldShape.TheVariants as shape
use Rattle.asn1_values_fields.specs.declared.field_shape.FieldValue.{FieldValue}
use Rattle.asn1_values_fields.specs.declared.field_shape.FieldValue.TheVariants as value

-- the shape by which a field is read back
abbrev pub shape_of : FieldBits → FieldShape
shape_of (Bits b) = shape.Bits (length (bits_of b))
shape_of (Number n width) = shape.Number width
shape_of (Octets os) = shape.Octets (length os.now)
shape_of (Whole z) = shape.Whole (signed_octets z.now)
shape_of (Characters a cs) = shape.Characters a (length cs.now)

-- whether a value is that of a field
abbrev pub IsSame : FieldBits → FieldValue → Type 0
IsSame (Bits b) (value.Bits bits) = bits ≡ bits_of b
IsSame (Number n width) (value.Number m digits) = (m ≡ n) × (digits ≡ width)
IsSame (Octets os) (value.Octets octets) = octets.items ≡ os.now
IsSame (Whole z) (value.Whole y) = y ≡ z.now
IsSame (Characters a cs) (value.Characters characters) = characters.items ≡ cs.now
IsSame f v = ⊥

-- whether values are those of fields, one by one
abbrev pub AreSame : List FieldBits → List FieldValue → Type 0
AreSame [] [] = Unit {0}
AreSame (f ∷ fs) (v ∷ vs) = IsSame f v × AreSame fs vs
AreSame fs vs = ⊥

-- what the Rust types guarantee for a field: octets are below 256, and the characters of an alphabet ascend and each
-- have a code
abbrev pub IsField : FieldBits → Type 0
IsField (Bits b) = Unit {0}
IsField (Number n width) = Unit {0}
IsField (Octets os) = AllByRecursion (λ o. o < 256) os.now
IsField (Whole z) = Unit {0}
IsField (Characters a cs) = IsStrictlyIncreasing a.now.characters × (length a.now.characters ≤ 2 ^ a.now.code_bits)

abbrev pub AreFields : List FieldBits → Type 0
AreFields fs = AllByRecursion IsField fs

-- what the Rust types guarantee for a value: octets are below 256
abbrev pub IsValue : FieldValue → Type 0
IsValue (value.Bits bits) = Unit {0}
IsValue (value.Number n width) = Unit {0}
IsValue (value.Octets octets) = AllByRecursion (λ o. o < 256) octets.items
IsValue (value.Whole z) = Unit {0}
IsValue (value.Characters characters) = Unit {0}

abbrev pub AreValues : List FieldValue → Type 0
AreValues vs = AllByRecursion IsValue vs
