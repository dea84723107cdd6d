-- How bounds are printed.
use Rattle.std.specs.Prelude.{ℕ, List, [], Option, Some, None, codes}
use Rattle.std.specs.Fmt.{◌++?◌}
use Rattle.asn1_schema_constraints.specs.declared.bounds.Bounded.{Bounded}
use Rattle.asn1_schema_constraints.specs.declared.bounds.Bounded.TheVariants.{None as Unbounded, Single}
use Rattle.asn1_schema_constraints.specs.declared.bounds.Bounded.TheVariants.{Range as Between}

-- An end, if there is one.
abbrev pub end_text : {X : Type 0} → (X → Option (List ℕ)) → Option X → Option (List ℕ)
end_text text None = Some []
end_text text (Some v) = text v

-- A single value, or the ends of a range with two dots between them.
abbrev pub bounds_text : {X : Type 0} → (X → Option (List ℕ)) → Bounded X → Option (List ℕ)
bounds_text text Unbounded = Some (codes "..")
bounds_text text (Single v) = text v
bounds_text text (Between start end) = end_text text start ++? Some (codes "..") ++? end_text text end
