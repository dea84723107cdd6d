-- The number of elements that a Rust list holds.
use Rattle.std.proofs.Common.{◌≡◌, ℕ, ◌-◌, ◌&&◌, ◌^◌, true, false, Some, refl, arith}
use Rattle.std.proofs.lemmas.Bool.{le-leb}
use Rattle.asn1_model.specs.Schema.{Counts}
use Rattle.asn1_schema_constraints.specs.Terms.{Meant, sized}
use Rattle.asn1_model.specs.Lawful.{are_counts}

-- any number of elements up to the greatest 64-bit number
abbrev pub any_number_held : Counts
any_number_held = record { low = 0; high = Some (2 ^ 64 - 1) }

-- exactly the given number of elements
abbrev pub exactly : ℕ → Counts
exactly n = record { low = n; high = Some n }

-- SIZE (n) (X.680 51.5).
abbrev pub fixed_to : ℕ → Meant
fixed_to n = sized n (Some n) false

-- a single number is a size of a well-formed type
pub exactly_is_size : (n : ℕ) → (are_counts (exactly n) && are_counts (exactly n)) ≡ true
exactly_is_size n = rw (le-leb n n (omega arith)) refl
