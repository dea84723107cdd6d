-- Recursive choices.
use Rattle.std.specs.Prelude.{ℕ, zero, suc}
use Rattle.asn1_model.specs.Schema.{Schema, cut}
use Rattle.asn1_schema_constructed.specs.Tables.{Choices, choice_type}

-- A recursive choice, unfolded to a number of nested levels: its table is a function of the type itself.
unfoldable pub recursive_choice : ((ℕ → Schema) → Choices) → ℕ → Schema
recursive_choice table zero = cut
recursive_choice table (suc n) = choice_type (table (λ _. recursive_choice table n)) (suc n)
