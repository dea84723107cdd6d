-- How constraints and a range that the type fixes are combined.
use Rattle.std.proofs.Common.{◌≡◌, ◌∙◌, refl, ap, ℤ, true, false, Option, Some, None}
use Rattle.asn1_model.specs.Schema.{Range}
use Rattle.asn1_model.specs.Numbers.{is_at_most}
use Rattle.asn1_schema_constraints.specs.Bounds.{lower, upper, later, earlier, between, meet, range_of}
use Rattle.asn1_schema_constraints.specs.Terms.{Meant, no_constraint, meant, bounds_of}
use Rattle.asn1_schema_constraints.proofs.Common.{number_order}
use Rattle.asn1_schema_constraints.proofs.Meets.{lower_between, upper_between}
use Rattle.asn1_schema_constraints.specs.declared.bounds.Bounded.{Bounded}
use Rattle.asn1_schema_constraints.specs.declared.bounds.Bounded.TheVariants.{Range as Between}
use Rattle.asn1_schema_constraints.specs.declared.parts.Value.{Value}
use Rattle.asn1_schema_constraints.specs.declared.extensions.Extensible.{Extensible}
use Rattle.asn1_schema_constraints.specs.declared.lists.Constraints.{Constraints}
use Rattle.asn1_schema_types.specs.Constrained.{met_range, within_range, to_root, root_between, met_root}

-- the ends of what two bounds both admit
ends : (b : Bounded ℤ) (low high : ℤ) → range_of (meet is_at_most b (Between (Some low) (Some high))) ≡ met_range (range_of b) low high
ends b low high =
    let start = later is_at_most (lower b) (Some low) in
    let end = earlier is_at_most (upper b) (Some high) in
    let first : range_of (between is_at_most start end) ≡ (record { low = start; high = upper (between is_at_most start end) }) =
    ap (λ (l : Option ℤ). let r : Range = record { low = l; high = upper (between is_at_most start end) } in r) (lower_between is_at_most start end) in
    let second : (record { low = start; high = upper (between is_at_most start end) }) ≡ met_range (range_of b) low high =
    ap (λ (h : Option ℤ). let r : Range = record { low = start; high = h } in r) (upper_between is_at_most number_order start end) in
    first ∙ second

pub range_meant : (low high : ℤ) (c : Constraints) → meant (to_root (met_root c.value (root_between low high))) ≡ within_range low high (meant c)
range_meant low high c = go c.value where
  bounded : Range → Meant
  bounded r = record no_constraint { bounds = record { range = r; extensible = false }; is_bounded = true }

  go : (o : Option (Extensible Value)) → meant (to_root (met_root o (root_between low high))) ≡ bounded (met_range (bounds_of o).range low high)
  go None = refl
  go (Some e) = ap bounded (ends e.constraint.value low high)
