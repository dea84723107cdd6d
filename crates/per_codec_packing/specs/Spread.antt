-- How a field-list is stored: its bits, and the number of bits before each open padding.
use Rattle.std.specs.Prelude.{◌≡◌, ℕ, ◌-◌, ◌≤◌, Bool, true, List, [], ◌∷◌, ◌++◌, length, take, drop}
use Rattle.std.specs.Coded.{×_prop, le_prop}
use Rattle.per_codec_packing.specs.FieldLists.{FieldList, padding, as_field_list}
use Rattle.per_codec_packing.specs.Packed.{Packed}

-- The field-list of the bits from one on, with paddings at these positions.
abbrev pub spread : ℕ → List Bool → List ℕ → FieldList
spread from bits [] = as_field_list bits
spread from bits (f ∷ fs) = as_field_list (take (f - from) bits) ++ padding ∷ spread f (drop (f - from) bits) fs

-- What the bits, the positions of padding and the knowledge of the position represent.
abbrev pub shown : List Bool → List ℕ → Bool → Packed
shown bits paddings placed = record { field_list = spread 0 bits paddings; placed = placed }

-- The positions ascend, between two bounds.
abbrev pub Ascend : ℕ → List ℕ → ℕ → Type 0
Ascend from [] to = from ≤ to
Ascend from (f ∷ fs) to = (from ≤ f) × Ascend f fs to

-- There is at most one proof that they ascend.
pub ascend_prop : (from : ℕ) (fs : List ℕ) (to : ℕ) → IsProp (Ascend from fs to)
ascend_prop from [] to = le_prop
ascend_prop from (f ∷ fs) to = ×_prop le_prop (ascend_prop f fs to)

-- They ascend within these bits.
abbrev pub AscendIn : List Bool → List ℕ → Type 0
AscendIn bits paddings = Ascend 0 paddings (length bits)

-- The open padding lies within the bits, and there is none if the position is known.
pub record ArePaddings (bits : List Bool) (paddings : List ℕ) (placed : Bool) : Type 0 where
  pub ascend : AscendIn bits paddings
  pub known : placed ≡ true → paddings ≡ []
