-- The leaves of a tree of tags, and its own tag.
use Rattle.std.specs.Prelude.{ℕ, ◌^◌, ltb, Bool, cond, List, [], ◌∷◌, flat_map, Option, Some, None}
use Rattle.std.specs.List.{list_any, position_from}
use Rattle.asn1_model.specs.Schema.{Tag as ModelTag}
use Rattle.asn1_model.specs.Lawful.{tag_same, are_distinct}
use Rattle.asn1_schema_tags.specs.Tags.{tag_of}
use Rattle.asn1_schema_tags.specs.declared.tags.Class.TheVariants.{Universal}
use Rattle.asn1_schema_tags.specs.declared.tags.Tag.{Tag}
use Rattle.asn1_schema_tags.specs.declared.trees.TagTree.{TagTree}
use Rattle.asn1_schema_tags.specs.declared.trees.TagTree.TheOpen.{TagTree-F, Leaf, Choice}
use Rattle.asn1_schema_tags.specs.declared.trees.TagTree.TheFolds.{fold-TagTree}

-- The leaves of a tree, given those of its subtrees.
abbrev pub leaves_step : TagTree-F (List ModelTag) → List ModelTag
leaves_step (Leaf t) = tag_of t ∷ []
leaves_step (Choice below) = flat_map (λ tags. tags) below.now

-- The tags of the leaves of a tree, in order (an untagged CHOICE begins with any tag of its alternatives, X.680 29).
abbrev pub leaves : TagTree → List ModelTag
leaves = fold-TagTree (List ModelTag) leaves_step

-- The tags of the leaves of several trees, in order.
abbrev pub leaves_of : List TagTree → List ModelTag
leaves_of trees = flat_map leaves trees

-- What takes the place of a tag for a type without one (X.680 29).
abbrev pub no_own_tag : Tag
no_own_tag = record { class = Universal; value = 0 }

-- A tree's own tag; those of its subtrees are irrelevant.
abbrev pub own_tag_step : TagTree-F Tag → Tag
own_tag_step (Leaf t) = t
own_tag_step (Choice below) = no_own_tag

-- The tag of a leaf, or what takes the place of a tag for an untagged CHOICE.
abbrev pub own_tag : TagTree → Tag
own_tag = fold-TagTree Tag own_tag_step

-- All tags are distinct (X.680 25, 27 and 29).
abbrev pub are_unique : List ModelTag → Bool
are_unique tags = are_distinct tag_same tags

-- Whether a tag is in a list.
abbrev pub is_among : List ModelTag → ModelTag → Bool
is_among tags t = list_any (tag_same t) tags

-- Whether two lists share a tag.
abbrev pub share_a_tag : List ModelTag → List ModelTag → Bool
share_a_tag ts us = list_any (is_among us) ts

-- The greatest tag: private, with the greatest 32-bit number (X.680 8.6).
abbrev pub greatest_tag : ModelTag
greatest_tag = record { class = 3; number = 4294967295 }

-- A count, if 64 bits hold it.
abbrev pub counted : ℕ → Option ℕ
counted n = cond (ltb n (2 ^ 64)) (Some n) None

-- The index of the first tag equal to the given one, from 0.
abbrev pub place_of : List ModelTag → ModelTag → Option ℕ
place_of tags t = position_from (tag_same t) 0 tags
