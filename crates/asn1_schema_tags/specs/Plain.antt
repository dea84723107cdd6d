-- Trees of tags as plain data, and when two are equal.
use Rattle.std.specs.Prelude.{Bool, true, false, ◌&&◌, List, [], ◌∷◌}
use Rattle.asn1_model.specs.Schema.{Tag as ModelTag}
use Rattle.asn1_model.specs.Lawful.{tag_same}
use Rattle.asn1_schema_tags.specs.Tags.{tag_of}
use Rattle.asn1_schema_tags.specs.declared.trees.TagTree.{TagTree}
use Rattle.asn1_schema_tags.specs.declared.trees.TagTree.TheOpen.{TagTree-F, Leaf, Choice}
use Rattle.asn1_schema_tags.specs.declared.trees.TagTree.TheFolds.{fold-TagTree}

mutual
  -- The tag of a type, or the trees of the alternatives of an untagged CHOICE (X.680 29).
  pub data Plain : Type 0 where
    own : ModelTag → Plain
    one_of : Plains → Plain

  -- A sequence of trees.
  pub data Plains : Type 0 where
    no_more : Plains
    further : Plain → Plains → Plains

-- A list of trees as a sequence of trees.
abbrev pub in_row : List Plain → Plains
in_row [] = no_more
in_row (t ∷ ts) = further t (in_row ts)

-- A tree as plain data, given that of its subtrees.
abbrev pub plain_step : TagTree-F Plain → Plain
plain_step (Leaf t) = own (tag_of t)
plain_step (Choice below) = one_of (in_row below.now)

-- A tree of tags as plain data.
abbrev pub plain : TagTree → Plain
plain = fold-TagTree Plain plain_step

unfoldable mutual
  -- Whether two trees have the same tags at the same positions.
  pub is_same : Plain → Plain → Bool
  is_same (own t) (own u) = tag_same t u
  is_same (own t) (one_of ys) = false
  is_same (one_of xs) (own u) = false
  is_same (one_of xs) (one_of ys) = are_same xs ys

  pub are_same : Plains → Plains → Bool
  are_same no_more no_more = true
  are_same no_more (further y ys) = false
  are_same (further x xs) no_more = false
  are_same (further x xs) (further y ys) = is_same x y && are_same xs ys

-- Equality of trees of tags.
abbrev pub same_tree : TagTree → TagTree → Bool
same_tree s t = is_same (plain s) (plain t)
