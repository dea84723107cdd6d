-- What is built: a field-list, at a known position or not.
use Rattle.std.specs.Prelude.{◌≡◌, ℕ, zero, suc, Bool, true, false, cond, List, [], ◌∷◌, ◌++◌, length, replicate}
use Rattle.std.specs.Prelude.{Option, Some, None, option_map}
use Rattle.asn1_model.specs.Numbers.{missing}
use Rattle.per_codec_packing.specs.FieldLists.{FieldList, bit, padding, as_field_list}

-- A field-list, and whether its position is known: it then starts where its message or open type starts.
pub record Packed : Type 0 where
  pub field_list : FieldList
  pub placed : Bool

-- Bits from the start of a message or open type.
abbrev pub from_start : List Bool → Packed
from_start l = record { field_list = as_field_list l; placed = true }

-- The position after a field-list, if it is known.
abbrev pub place : Packed → Option ℕ
place p = cond p.placed (Some (length p.field_list)) None

-- What is there, and a field-list after it.
abbrev pub plus : Packed → FieldList → Packed
plus p w = record { field_list = p.field_list ++ w; placed = p.placed }

-- The field-list, if there is one, follows what was there before.
abbrev pub Adds : Option FieldList → Packed → Packed → Type 0
Adds field_list old new = option_map (λ w. plus old w) field_list ≡ Some new

-- The padding from a position to the next octet boundary: zero bits, if the position is known (X.691 11.1).
abbrev pub padding_at : Option ℕ → FieldList
padding_at None = padding ∷ []
padding_at (Some p) = as_field_list (replicate (missing p) false)

-- The bits of a field-list, without open padding.
abbrev pub solid : FieldList → List Bool
solid [] = []
solid (bit b ∷ t) = b ∷ solid t
solid (padding ∷ t) = solid t

-- A field-list with one of these bits changed; the first has index 0.
abbrev pub with_bit : ℕ → Bool → FieldList → FieldList
with_bit i b [] = []
with_bit i b (padding ∷ t) = padding ∷ with_bit i b t
with_bit zero b (bit c ∷ t) = bit b ∷ t
with_bit (suc i) b (bit c ∷ t) = bit c ∷ with_bit i b t
