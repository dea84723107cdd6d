-- How the alternative of a tag is decoded.
use Rattle.std.specs.Prelude.{◌≡◌, ℕ, Some}
use Rattle.asn1_model.specs.Schema.{Tag}
use Rattle.asn1_model.specs.Value.{Value}
use Rattle.asn1_schema_errors.specs.declared.DecodeError.{DecodeError}
use Rattle.asn1_schema_laws.specs.Records.{Record}
use Rattle.asn1_schema_tags.specs.declared.chosen.Chosen.{Chosen}
use Rattle.asn1_schema_decode.specs.Reads.{Reads, Unread}
use Rattle.asn1_schema_constructed.specs.Tables.{Choices}
use Rattle.asn1_schema_constructed.specs.Chosen.{chosen_type, of_tag}

-- A value of the alternative of a tag is read.
pub record ReadsTagged {S : Type 0} (step : S → Record → S → Type 0) (t : Choices) (tag : Tag) (n : ℕ) (c : Chosen)
    (v : Value) (old new : S) : Type 0 where
  pub is : of_tag t tag ≡ Some c
  pub reads : Reads step (chosen_type t c) n v old new

-- Why no value is read: no alternative has the tag, or no value of the alternative with this tag is next.
pub record UnreadTagged {S : Type 0} (step : S → Record → S → Type 0) (few : S → S → S → Type 0) (t : Choices)
    (tag : Tag) (n : ℕ) (old failed : S) (x : DecodeError) : Type 0 where
  pub none : (c : Chosen) → of_tag t tag ≡ Some c → Unread step few (chosen_type t c) n old failed x
