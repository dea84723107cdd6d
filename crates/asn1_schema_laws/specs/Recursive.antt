-- A recursive SEQUENCE, unfolded to a number of nested levels (X.680 25).
use Rattle.std.specs.Prelude.{ℕ, zero, suc}
use Rattle.asn1_model.specs.Schema.{Schema, cut}
use Rattle.asn1_schema_laws.specs.Tables.{Table, sequence_type}

-- A recursive SEQUENCE, unfolded to a number of nested levels: the table gives the recursive components in terms of
-- the type itself.
unfoldable pub recursive_sequence : ((ℕ → Schema) → Table) → ℕ → Schema
recursive_sequence table zero = cut
recursive_sequence table (suc n) = sequence_type (table (λ _. recursive_sequence table n)) (suc n)
