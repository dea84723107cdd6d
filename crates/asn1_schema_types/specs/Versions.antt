-- Two versions of a type, each unfolded to any number of nested levels.
use Rattle.std.specs.Prelude.{ℕ, ◌≤◌}
use Rattle.asn1_model.specs.Schema.{Schema}
use Rattle.asn1_model.specs.Versions.{Extends}
use Rattle.asn1_laws_values.specs.Unfolding.{AgreesTo}

-- The second type is a newer version of the first, both unfolded to the same number of levels, for every number from
-- the given one on.
pub record ExtendsFrom (levels : ℕ) (old new : ℕ → Schema) : Type 0 where
  pub unfolded : (n : ℕ) → levels ≤ n → Extends (old n) (new n)

-- Two unfoldings of a type agree as far as both go, so that a value with at most that many nested levels means the
-- same in both.
pub record Unfolds (schema : ℕ → Schema) : Type 0 where
  pub alike : (k i j : ℕ) → k ≤ i → k ≤ j → AgreesTo k (schema i) (schema j)
