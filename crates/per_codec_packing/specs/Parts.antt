-- Field-lists in shared buffers.
use Rattle.std.specs.Prelude.{ℕ, ◌≤◌, ⊤, Bool, List, [], ◌∷◌, length, map}
use Rattle.std.specs.List.{slice_range}
use Rattle.per_codec_packing.specs.FieldLists.{FieldList}
use Rattle.per_codec_packing.specs.Spread.{spread, Ascend}
use Rattle.per_codec_packing.specs.declared.field_lists.Span.{Span}
use Rattle.per_codec_packing.specs.declared.field_lists.Part.{Part}

-- The elements in a span.
abbrev pub cut : {X : Type 0} → Span → List X → List X
cut s xs = slice_range xs s.from s.to

-- The field-list of a part of all bits and of all paddings. Each padding is the number of the field-list's bits before
-- it.
abbrev pub field_list_in : List Bool → List ℕ → Part → FieldList
field_list_in bits paddings p = spread 0 (cut p.bits bits) (cut p.paddings paddings)

-- The field-list of each part.
abbrev pub field_lists_in : List Bool → List ℕ → List Part → List FieldList
field_lists_in bits paddings parts = map (field_list_in bits paddings) parts

-- A part lies within all bits and all paddings, and its paddings within its bits.
pub record IsPart (bits : List Bool) (paddings : List ℕ) (p : Part) : Type 0 where
  pub bits_ordered : p.bits.from ≤ p.bits.to
  pub bits_within : p.bits.to ≤ length bits
  pub paddings_ordered : p.paddings.from ≤ p.paddings.to
  pub paddings_within : p.paddings.to ≤ length paddings
  pub ascend : Ascend 0 (cut p.paddings paddings) (length (cut p.bits bits))

-- All of them do.
abbrev pub AreParts : List Bool → List ℕ → List Part → Type 0
AreParts bits paddings [] = ⊤
AreParts bits paddings (p ∷ ps) = IsPart bits paddings p × AreParts bits paddings ps
