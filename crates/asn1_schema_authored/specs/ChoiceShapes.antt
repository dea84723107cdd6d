-- The alternatives of an enum, and which of them each value is.
use Rattle.asn1_model.specs.Value.{Value}
use Rattle.asn1_schema_laws.specs.Tables.{IsType, IsValue}
use Rattle.asn1_schema_tags.specs.declared.chosen.Chosen.{Chosen}
use Rattle.asn1_schema_constructed.specs.Chosen.{chosen_value}
use Rattle.asn1_schema_constructed.specs.Tables.{Choices, all_tags, choice_type}

-- The alternatives, which of them a value is, and the value of that alternative: the choice is a well-formed type, and
-- each value is one of it.
pub record ChoiceShape (A : Type 0) : Type 0 where
  pub table : Choices
  pub place : A → Chosen
  pub inner : A → Value
  pub typed : IsType (all_tags table) (choice_type table)
  pub valued : (x : A) → IsValue (choice_type table) (chosen_value (place x) (inner x))
