-- Tags that a module's text leaves out, and how tags are applied (X.680 13.2, 25, 29 and 31).
use Rattle.std.specs.Prelude.{◌≡◌, ℕ, ◌+◌, ◌<◌, ◌^◌, Bool, true, false, cond}
use Rattle.std.specs.Prelude.{not, ◌&&◌, List, length, take, Option, Some, None}
use Rattle.std.specs.Prelude.{⊤, slice_index_or}
use Rattle.std.specs.List.{count_by, list_any, position}
use Rattle.asn1_model.specs.Schema.{Tag as ModelTag}
use Rattle.asn1_schema_tags.specs.Tags.{tag_of}
use Rattle.asn1_schema_tags.specs.declared.tags.Tag.{Tag}
use Rattle.asn1_notation_rules.specs.declared.tagging.TagDefault.{TagDefault}
use Rattle.asn1_notation_rules.specs.declared.tagging.TagDefault.TheVariants as environment
use Rattle.asn1_notation_rules.specs.declared.tagging.TagNotation.{TagNotation}
use Rattle.asn1_notation_rules.specs.declared.tagging.TagNotation.TheVariants as written
use Rattle.asn1_notation_rules.specs.declared.tagging.Tagging.{Tagging}
use Rattle.asn1_notation_rules.specs.declared.tagging.Tagging.TheVariants as applied
use Rattle.asn1_notation_rules.specs.declared.tagging.TaggingError.{TaggingError}
use Rattle.asn1_notation_rules.specs.declared.tagging.TaggingError.TheVariants.{TooManyComponents, OutOfMemory}

-- One of some components or alternatives is written with a tag of its own.
abbrev pub has_tag : List Bool → Bool
has_tag are_tagged = list_any (λ b. b) are_tagged

-- The environment is one of automatic tags (X.680 13.2).
abbrev pub is_automatic_environment : TagDefault → Bool
is_automatic_environment environment.Automatic = true
is_automatic_environment e = false

-- Automatic tagging applies: in its environment, where none is written with a tag of its own (X.680 25.2 and 29.2).
abbrev pub applies_automatic : TagDefault → List Bool → Bool
applies_automatic e are_tagged = is_automatic_environment e && not (has_tag are_tagged)

-- The first addition with a tag of its own, where automatic tagging would apply to the root (X.680 25.7 and 29.3).
abbrev pub misplaced_in : TagDefault → List Bool → List Bool → Option ℕ
misplaced_in e are_root_tagged are_added_tagged =
    cond (applies_automatic e are_root_tagged) (position (λ b. b) are_added_tagged) None

-- A context-specific tag (X.680 8.1).
abbrev pub context_tag : ℕ → ModelTag
context_tag n = record { class = 2; number = n }

-- The number that automatic tagging gives the component at an index, where each is added or not: as many components of
-- the root are before one of the root; before an addition are all of the root, and the additions before it (X.680 25.9
-- and 29.3).
abbrev pub automatic_number : List Bool → ℕ → ℕ
automatic_number are_added k =
    cond (slice_index_or are_added k false)
    (count_by not are_added + count_by (λ b. b) (take k are_added))
    (count_by not (take k are_added))

-- Each component has the tag of its number.
pub record HaveAutomaticTags (are_added : List Bool) (tags : List Tag) : Type 0 where
  pub count : length tags ≡ length are_added
  pub tag : (k : ℕ) (d : Tag) → k < length are_added
      → tag_of (slice_index_or tags k d) ≡ context_tag (automatic_number are_added k)

-- A component would get a number of more than 32 bits, or memory is missing.
abbrev pub IsTaggingError : List Bool → TaggingError → Type 0
IsTaggingError are_added TooManyComponents = 2 ^ 32 < length are_added
IsTaggingError are_added OutOfMemory = ⊤

-- How a tag is applied (X.680 31.2.7): explicitly where EXPLICIT is written, in an environment of explicit tags where
-- neither is written, and to a type that has no tag of its own: an untagged CHOICE, open type or parameter. IMPLICIT is
-- not written before such a type (X.680 31.2.9).
abbrev pub tagging_of : TagDefault → TagNotation → Bool → Option Tagging
tagging_of e written.Explicit has_no_tag = Some applied.Explicit
tagging_of e written.Implicit true = None
tagging_of e written.Implicit false = Some applied.Implicit
tagging_of environment.Explicit written.Plain has_no_tag = Some applied.Explicit
tagging_of e written.Plain true = Some applied.Explicit
tagging_of e written.Plain false = Some applied.Implicit
