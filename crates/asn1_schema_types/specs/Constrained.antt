-- Integers within a range, as types of the model (X.680 51.4).
use Rattle.std.proofs.Common.{◌≡◌, ◌∙◌, refl, ap, ℤ, negsuc, Bool, true, false, cond, List, Option, Some, None}
use Rattle.asn1_model.specs.Value.{number}
use Rattle.asn1_model.specs.Schema.{Tag, Range, Schema, any_number}
use Rattle.asn1_model.specs.Numbers.{is_at_most}
use Rattle.asn1_model.specs.Lawful.{is_range}
use Rattle.asn1_schema_constraints.specs.Bounds.{later, earlier}
use Rattle.asn1_schema_constraints.specs.Sets.{met_values, unconstrained}
use Rattle.asn1_schema_constraints.specs.Terms.{Meant, no_constraint, from_to, integer_under}
use Rattle.asn1_schema_constraints.specs.declared.bounds.Bounded.TheVariants.{Range as Between}
use Rattle.asn1_schema_constraints.specs.declared.parts.Value.{Value}
use Rattle.asn1_schema_constraints.specs.declared.extensions.Extensible.{Extensible}
use Rattle.asn1_schema_constraints.specs.declared.lists.Constraints.{Constraints}
use Rattle.asn1_schema_laws.specs.Tables.{is_one_tag, IsType, IsValue}
use Rattle.asn1_schema_laws.proofs.TypesByKind.{integer_type, integer_value}
use Rattle.asn1_values_natives.specs.Ranges.{natural_range}

-- The numbers of a range that are between two bounds.
abbrev pub met_range : Range → ℤ → ℤ → Range
met_range r low high = record {
  low = later is_at_most r.low (Some low);
  high = earlier is_at_most r.high (Some high);
}

-- Constraints followed by a range that the type fixes: what both admit. The extension marker of the earlier constraint
-- does not carry over to the later one (X.680 50.8).
abbrev pub within_range : ℤ → ℤ → Meant → Meant
within_range low high c = record no_constraint {
  bounds = record { range = met_range c.bounds.range low high; extensible = false };
  is_bounded = true;
}

-- INTEGER without a number: the range from -1 to -1, in one unsigned octet.
abbrev pub no_integer : Schema
no_integer = integer_under (from_to (negsuc 0) (negsuc 0)) (natural_range 255)

-- INTEGER under constraints and within a range. A range whose start is above its end is empty.
abbrev pub constrained_type : ℤ → ℤ → Meant → Schema
constrained_type low high c =
    cond (is_at_most low high) (integer_under (within_range low high c) any_number) no_integer

-- Constraints of the Rust value to a root, without an extension marker.
abbrev pub to_root : Value → Constraints
to_root root = record unconstrained { value = Some (record { constraint = root; extensible = None }) }

-- The value constraint to the numbers from one bound to another.
abbrev pub root_between : ℤ → ℤ → Value
root_between low high = record { value = Between (Some low) (Some high) }

-- A value constraint, if there is one, followed by another: what both roots admit.
abbrev pub met_root : Option (Extensible Value) → Value → Value
met_root None root = root
met_root (Some c) root = met_values c.constraint root

-- Both branches are equal.
either : {A : Type 0} (b : Bool) (x : A) → cond b x x ≡ x
either true x = refl
either false x = refl

-- The start of a range intersected with itself is at most its end.
met_ordered : (low high : ℤ) → is_at_most low high ≡ true
    → is_range (met_range (from_to low high).bounds.range low high) ≡ true
met_ordered low high e =
    ap (λ (z : ℤ). is_at_most z (cond (is_at_most high high) high high)) (either (is_at_most low low) low)
    ∙ (ap (λ (z : ℤ). is_at_most low z) (either (is_at_most high high) high) ∙ e)

-- The type under its own range is well-formed.
pub constrained_is_type : {ts : List Tag} (low high : ℤ) → is_one_tag ts ≡ true
    → IsType ts (λ _. constrained_type low high (from_to low high))
constrained_is_type {ts} low high t = go (is_at_most low high) refl where
  go : (b : Bool) → is_at_most low high ≡ b
      → IsType ts (λ _. cond b (integer_under (within_range low high (from_to low high)) any_number) no_integer)
  go true e = integer_type _ _ t (met_ordered low high e) refl
  go false e = integer_type _ _ t refl refl

-- A number within a range is a value of its type.
pub constrained_is_value : (low high : ℤ) (c : Meant) (z : ℤ) → IsValue (λ _. constrained_type low high c) (number z)
constrained_is_value low high c z = go (is_at_most low high) where
  go : (b : Bool) → IsValue (λ _. cond b (integer_under (within_range low high c) any_number) no_integer) (number z)
  go true = integer_value _ _ _
  go false = integer_value _ _ _
