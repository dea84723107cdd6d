-- The tags of a CHOICE, and the alternative of a tag.
use Rattle.std.specs.Prelude.{ℕ, Bool, true, false, List, Option, Some, None}
use Rattle.asn1_model.specs.Schema.{Tag as ModelTag}
use Rattle.asn1_schema_tags.specs.declared.chosen.Chosen.{Chosen}
use Rattle.asn1_schema_tags.specs.Trees.{place_of}

-- The description of a CHOICE for a codec: the tags of its root alternatives, whether there is an extension marker,
-- and the tags of its added alternatives.
pub record ChoiceTags : Type 0 where
  pub roots : List ModelTag
  pub extensible : Bool
  pub additions : List ModelTag

-- The alternative of a tag, from its index among the root alternatives and among the added ones: a root alternative,
-- or an added one if there is an extension marker.
abbrev pub alternative_at : Bool → Option ℕ → Option ℕ → Option Chosen
alternative_at e (Some i) o = Some (record { added = false; place = i })
alternative_at true None (Some i) = Some (record { added = true; place = i })
alternative_at true None None = None
alternative_at false None o = None

-- The alternative of a tag.
abbrev pub alternative_of : ChoiceTags → ModelTag → Option Chosen
alternative_of c t = alternative_at c.extensible (place_of c.roots t) (place_of c.additions t)
