-- The positions of tags in a list.
use Rattle.std.specs.Prelude.{◌≡◌, ℕ, ◌<◌, List, Some, slice_get}
use Rattle.asn1_model.specs.Schema.{Tag}

-- No tag is at two positions.
abbrev pub StandOnce : List Tag → Type 0
StandOnce ts = (i j : ℕ) (t : Tag) → slice_get ts i ≡ Some t → slice_get ts j ≡ Some t → i ≡ j

-- A tag that is at two positions, and these positions.
pub record Twice (ts : List Tag) : Type 0 where
  pub tag : Tag
  pub first : ℕ
  pub second : ℕ
  pub apart : first < second
  pub here : slice_get ts first ≡ Some tag
  pub again : slice_get ts second ≡ Some tag
