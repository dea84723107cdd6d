-- The tables from which the schema of a choice is built, for any number of nested levels.
use Rattle.std.specs.Prelude.{◌≡◌, ℕ, ℤ, zero, suc, Bool, true, false, not, ◌&&◌, ◌||◌, List, [], ◌∷◌, ◌++◌, int_lt}
use Rattle.asn1_model.specs.Schema.{Tag, Schema, cut, choice, Alternatives, no_alternative, alternative}
use Rattle.asn1_model.specs.Tidy.{are_tidy_alternatives}
use Rattle.asn1_model.specs.Lawful.{are_lawful_alternatives, are_distinct, are_ascending, tag_less}
use Rattle.asn1_model.specs.Lawful.{tag_same, is_empty}
use Rattle.asn1_model.specs.Value.{same_number}
use Rattle.asn1_schema_laws.specs.Tables.{scope}

-- Alternatives, each with its tag and its type for each number of levels.
pub data Variants : Type 0 where
  no_variant : Variants
  variant : Tag → (ℕ → Schema) → Variants → Variants

-- The alternatives for a number of levels.
unfoldable pub alternatives_at : ℕ → Variants → Alternatives
alternatives_at n no_variant = no_alternative
alternatives_at n (variant t s vs) = alternative t (s n) (alternatives_at n vs)

-- A choice: its root alternatives in ascending order of their tags, whether there is an extension marker, and the added
-- alternatives after it (X.680 29).
pub record Choices : Type 0 where
  pub root : Variants
  pub extensible : Bool
  pub additions : Variants

-- The alternatives of the root (false), or the added ones (true).
abbrev pub side : Choices → Bool → Variants
side t false = t.root
side t true = t.additions

-- The tags of alternatives, in their order.
abbrev pub tags_of : Variants → List Tag
tags_of no_variant = []
tags_of (variant t s vs) = t ∷ tags_of vs

-- The type of the alternative with this index; a type without values after the last one.
abbrev pub type_at : Variants → ℕ → ℕ → Schema
type_at no_variant i = λ n. cut
type_at (variant t s vs) zero = s
type_at (variant t s vs) (suc i) = type_at vs i

-- CHOICE (X.680 29).
unfoldable pub choice_type : Choices → ℕ → Schema
choice_type t n = scope n (λ m. choice (alternatives_at m t.root) t.extensible (alternatives_at m t.additions))

-- There is a root alternative; there are added ones only after an extension marker; the tags of the root ascend, and no
-- tag occurs twice (X.680 29.3).
abbrev pub are_choices : Choices → Bool
are_choices t =
    not (is_empty (tags_of t.root)) && (t.extensible || is_empty (tags_of t.additions))
    && are_ascending tag_less (tags_of t.root)
    && are_distinct tag_same (tags_of t.root ++ tags_of t.additions)

-- The types of the alternatives are well-formed, and none is an extension addition group; their defaults are in normal
-- form.
pub record AreVariants (vs : Variants) : Type 0 where
  pub lawful : (n : ℕ) → are_lawful_alternatives (alternatives_at n vs) ≡ true
  pub tidy : (n : ℕ) → are_tidy_alternatives (alternatives_at n vs) ≡ true

-- The tags with which a value of a choice without a tag may begin (X.680 29).
abbrev pub all_tags : Choices → List Tag
all_tags t = tags_of t.root ++ tags_of t.additions

-- The numbers of the items of an enumeration: there is a root item; there are added ones only after an extension
-- marker; the numbers of each table ascend, and none occurs twice (X.680 20.4 to 20.6).
abbrev pub are_items : List ℤ → Bool → List ℤ → Bool
are_items roots e others =
    not (is_empty roots) && (e || is_empty others) && are_ascending int_lt roots && are_ascending int_lt others
    && are_distinct same_number (roots ++ others)
