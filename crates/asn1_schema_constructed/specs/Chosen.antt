-- The chosen alternative of a value, and what an encoder and a decoder are given of a CHOICE.
use Rattle.std.specs.Prelude.{◌≡◌, ◌<◌, ℕ, Bool, true, false, List, length, Option, Some, None, option_map, slice_get}
use Rattle.asn1_model.specs.Schema.{Tag, Schema}
use Rattle.asn1_model.specs.Value.{Value, chosen}
use Rattle.asn1_schema_laws.specs.Records.{Record, Question, choice_begins, asks_choice}
use Rattle.asn1_schema_tags.specs.Trees.{place_of}
use Rattle.asn1_schema_tags.specs.declared.chosen.Chosen.{Chosen}
use Rattle.asn1_schema_constructed.specs.Tables.{Choices, side, tags_of, type_at}

-- The type of the chosen alternative.
abbrev pub chosen_type : Choices → Chosen → ℕ → Schema
chosen_type t c = type_at (side t c.added) c.place

-- The value of a choice, by that of its chosen alternative.
abbrev pub chosen_value : Chosen → Value → Value
chosen_value c v = chosen c.added c.place v

-- The choice has such an alternative.
abbrev pub IsAmong : Choices → Chosen → Type 0
IsAmong t c = c.place < length (tags_of (side t c.added))

-- It has this tag.
abbrev pub IsTag : Choices → Chosen → Tag → Type 0
IsTag t c tag = slice_get (tags_of (side t c.added)) c.place ≡ Some tag

-- The first of two results that is present.
abbrev pub either : Option Chosen → Option Chosen → Option Chosen
either (Some c) o = Some c
either None o = o

-- The alternative of a tag, among those of the root or else the added ones, if there is one.
abbrev pub of_tag : Choices → Tag → Option Chosen
of_tag t tag =
    either (option_map (λ i. record { added = false; place = i }) (place_of (tags_of t.root) tag))
    (option_map (λ i. record { added = true; place = i }) (place_of (tags_of t.additions) tag))

-- The record with which a choice begins.
abbrev pub begins : Choices → Bool → ℕ → Record
begins t b i = choice_begins (tags_of t.root) t.extensible (tags_of t.additions) b i

-- The question of a decoder for it.
abbrev pub asks : Choices → Question
asks t = asks_choice (tags_of t.root) t.extensible (tags_of t.additions)

-- The tags and the extension marker that a codec is given are those of the choice.
pub record AreTold (t : Choices) (roots : List Tag) (extensible : Bool) (additions : List Tag) : Type 0 where
  pub root : roots ≡ tags_of t.root
  pub marker : extensible ≡ t.extensible
  pub added : additions ≡ tags_of t.additions
