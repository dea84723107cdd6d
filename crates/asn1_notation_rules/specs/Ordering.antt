-- The canonical order of tags (X.680 8.6).
use Rattle.std.specs.Prelude.{◌≡◌, ℕ, ◌<◌, Bool, true, List, length, map, slice_index_or, ⊤}
use Rattle.std.specs.List.{range_with_len}
use Rattle.std.specs.List.Sorted.{IsPermutation}
use Rattle.asn1_model.specs.Lawful.{are_ascending, tag_less}
use Rattle.asn1_model.specs.Schema.{Tag as ModelTag}
use Rattle.asn1_schema_tags.specs.Tags.{tag_of}
use Rattle.asn1_schema_tags.specs.declared.tags.Tag.{Tag}
use Rattle.asn1_notation_rules.specs.declared.ordering.OrderError.{OrderError}
use Rattle.asn1_notation_rules.specs.declared.ordering.OrderError.TheVariants.{TagTwice, OutOfMemory}

-- The tag at an index.
abbrev pub key_at : List Tag → Tag → ℕ → ModelTag
key_at tags d i = tag_of (slice_index_or tags i d)

-- The tag at an index comes before another.
abbrev pub comes_before : List Tag → Tag → ℕ → Bool
comes_before tags tag i = tag_less (key_at tags tag i) (tag_of tag)

-- Indices are those of the first so many tags, each once, and these tags ascend in their order.
pub record AreInOrder (tags : List Tag) (count : ℕ) (order : List ℕ) : Type 0 where
  pub all : IsPermutation (range_with_len 0 count) order
  pub ascending : (d : Tag) → are_ascending tag_less (map (key_at tags d) order) ≡ true

-- Two indices, the first before the second, are those of one tag; or memory is missing.
abbrev pub IsOrderError : List Tag → OrderError → Type 0
IsOrderError tags (TagTwice first second) =
    (first < second) × (second < length tags)
    × ((d : Tag) → slice_index_or tags first d ≡ slice_index_or tags second d)
IsOrderError tags OutOfMemory = ⊤
