-- How additions are stored until their sequence or set ends.
use Rattle.std.specs.Prelude.{◌≡◌, ℕ, ◌≤◌, ⊤, Bool, true, false, List, [], ◌∷◌, length, map, take, Option, Some, None}
use Rattle.std.specs.List.{slice_range}
use Rattle.asn1_model.specs.Form.{is_any_present}
use Rattle.asn1_model.specs.Numbers.{octet_bits, packed}
use Rattle.asn1_values_bits.specs.Octets.{padded}
use Rattle.per_codec_additions.specs.declared.slots.Slot.{Slot}
use Rattle.per_codec_additions.specs.declared.slots.Slot.TheVariants.{Absent, InPlace, Shared}

-- The octets of the complete encoding of bits (X.691 11.1): the bits padded with zero bits, or one zero octet if
-- there are none.
abbrev pub complete_octets : List Bool → List ℕ
complete_octets [] = 0 ∷ []
complete_octets (b ∷ bs) = packed (padded (b ∷ bs))

-- A number of bits of octets.
abbrev pub first_bits_of_octets : ℕ → List ℕ → List Bool
first_bits_of_octets n os = take n (octet_bits os)

-- The bits of an addition that is present; those of a longer one are in these octets.
abbrev pub kept_bits : List ℕ → Slot → Option (List Bool)
kept_bits shared Absent = None
kept_bits shared (InPlace os count n) = Some (first_bits_of_octets n (take count os))
kept_bits shared (Shared from to n) = Some (first_bits_of_octets n (slice_range shared from to))

-- Whether an addition is present.
abbrev pub is_there : Slot → Bool
is_there Absent = false
is_there (InPlace os count n) = true
is_there (Shared from to n) = true

-- The first octets are the complete encoding of the bits.
pub record AreInPlace (os : List ℕ) (count n : ℕ) : Type 0 where
  pub within : count ≤ 16
  pub octets : take count os ≡ complete_octets (first_bits_of_octets n (take count os))

-- The octets between two positions are.
pub record AreShared (shared : List ℕ) (from to n : ℕ) : Type 0 where
  pub ordered : from ≤ to
  pub within : to ≤ length shared
  pub octets : slice_range shared from to ≡ complete_octets (first_bits_of_octets n (slice_range shared from to))

-- The octets of an addition that is present, in place or among these, are the complete encoding of its bits.
abbrev pub IsSlotOf : List ℕ → Slot → Type 0
IsSlotOf shared Absent = ⊤
IsSlotOf shared (InPlace os count n) = AreInPlace os count n
IsSlotOf shared (Shared from to n) = AreShared shared from to n

-- It is stored in such a slot, and these are its bits.
pub record Keeps (shared : List ℕ) (slot : Slot) (bits : List Bool) : Type 0 where
  pub kept : IsSlotOf shared slot
  pub is : kept_bits shared slot ≡ Some bits

-- The bits of each addition that is present.
abbrev pub all_bits : List ℕ → List Slot → List (Option (List Bool))
all_bits shared slots = map (kept_bits shared) slots

-- Each addition is stored in such a slot.
abbrev pub EachIsSlotOf : List ℕ → List Slot → Type 0
EachIsSlotOf shared [] = ⊤
EachIsSlotOf shared (s ∷ ss) = IsSlotOf shared s × EachIsSlotOf shared ss

-- All are, and it is known whether one of them is present.
pub record AreSlots (shared : List ℕ) (slots : List Slot) (any : Bool) : Type 0 where
  pub each : EachIsSlotOf shared slots
  pub is_any : any ≡ is_any_present (all_bits shared slots)
