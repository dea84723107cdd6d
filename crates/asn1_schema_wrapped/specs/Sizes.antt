-- Sizes from one number to another, as types that are constraints.
use Rattle.std.specs.Prelude.{◌≡◌, ◌&&◌, ℕ, leb, max, Bool, true, Some}
use Rattle.std.proofs.Common.{ap}
use Rattle.std.proofs.Math.Nat.{le-max_left}
use Rattle.std.proofs.lemmas.Bool.{le-leb}
use Rattle.asn1_schema_constraints.specs.Terms.{Meant, sized}

-- The sizes from the first number to the second, or only the first if the second is less, and whether an extension
-- marker follows (X.680 51.5 and 52).
abbrev pub sizes_from_to : ℕ → ℕ → Bool → Meant
sizes_from_to low high is_extensible = sized low (Some (max low high)) is_extensible

-- They are in order.
pub are_sizes : (low high : ℕ) → (leb low (max low high) && true) ≡ true
are_sizes low high = ap (λ b. b && true) (le-leb low (max low high) (le-max_left low high))
