-- The order of tags and of items, one after another.
use Rattle.std.specs.Prelude.{Bool, true, cond, List, [], ◌∷◌, Option, Some, None}
use Rattle.asn1_model.specs.Schema.{Tag}
use lib.Pointwise.{pointwise}
use Rattle.asn1_model.specs.Lawful.{are_ascending, smallest, tag_less, tag_same}
use Rattle.asn1_table_nodes.specs.Meaning.{least_of}

-- An element comes after another, if there is one.
abbrev pub is_above : {X : Type 0} → (X → X → Bool) → Option X → X → Bool
is_above less None x = true
is_above less (Some y) x = less y x

abbrev pub is_behind : Option Tag → Tag → Bool
is_behind o t = is_above tag_less o t

abbrev pub follows : Option Tag → Option Tag → Bool
follows o None = true
follows o (Some t) = is_behind o t

-- Elements ascend after another, if there is one.
abbrev pub ascend_behind : {X : Type 0} → (X → X → Bool) → Option X → List X → Bool
ascend_behind less None xs = are_ascending less xs
ascend_behind less (Some x) xs = are_ascending less (x ∷ xs)

-- The smaller of two tags, of which the first may be missing (X.680 8.6).
abbrev pub smaller_of : Option Tag → Tag → Tag
smaller_of None t = t
smaller_of (Some u) t = cond (tag_less t u) t u

-- The smallest of a tag, if there is one, and of others.
abbrev pub least_with : Option Tag → List Tag → List Tag
least_with None ts = least_of ts
least_with (Some t) ts = smallest t ts ∷ []

-- Two rows of tags are the same.
abbrev pub same_row : List Tag → List Tag → Bool
same_row ts us = pointwise tag_same ts us
