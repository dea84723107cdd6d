-- Tables that give the index of a tag among the alternatives of a CHOICE.
use Rattle.std.specs.Prelude.{ℕ, ◌+◌, ◌==◌, Bool, true, false, cond, ◌&&◌, List, [], ◌∷◌, map, slice_get}
use Rattle.std.specs.Prelude.{Option, Some, None}
use Rattle.asn1_model.specs.Schema.{Tag as ModelTag}
use Rattle.asn1_model.specs.Lawful.{tag_less, tag_same, are_ascending}
use Rattle.std.specs.List.{list_all}
use Rattle.asn1_schema_tags.specs.Tags.{tag_of}
use Rattle.asn1_schema_tags.specs.declared.probes.TagPlace.{TagPlace}

-- What a probe holds: its table, and the number of comparisons with tags of the table.
pub record Probed : Type 0 where
  pub places : List TagPlace
  pub count : ℕ

-- The tags of a table.
abbrev pub tags_in : List TagPlace → List ModelTag
tags_in ps = map (λ p. tag_of p.tag) ps

-- A table ascends by tag (X.680 8.6).
abbrev pub ascends : List TagPlace → Bool
ascends ps = are_ascending tag_less (tags_in ps)

-- The index that a table gives for a tag, by its first entry with that tag.
abbrev pub looked_up : List TagPlace → ModelTag → Option ℕ
looked_up [] t = None
looked_up (p ∷ ps) t = cond (tag_same t (tag_of p.tag)) (Some p.place) (looked_up ps t)

-- Whether a tag is there and is the given one.
abbrev pub is_tag_there : Option ModelTag → ModelTag → Bool
is_tag_there None t = false
is_tag_there (Some u) t = tag_same t u

-- Whether an index is there and is the given one.
abbrev pub is_place_there : Option ℕ → ℕ → Bool
is_place_there None i = false
is_place_there (Some j) i = j == i

-- Whether the tag of an entry is at its index among the tags.
abbrev pub stands_at : List ModelTag → TagPlace → Bool
stands_at ts p = is_tag_there (slice_get ts p.place) (tag_of p.tag)

-- Whether a table lists each of the tags with its index; that of the first tag is given.
abbrev pub are_listed : List TagPlace → ℕ → List ModelTag → Bool
are_listed ps i [] = true
are_listed ps i (t ∷ ts) = is_place_there (looked_up ps t) i && are_listed ps (i + 1) ts

-- Whether a table is ascending by tag and lists exactly the tags, each with its index.
abbrev pub is_table_of : List TagPlace → List ModelTag → Bool
is_table_of ps ts = ascends ps && list_all (stands_at ts) ps && are_listed ps 0 ts
