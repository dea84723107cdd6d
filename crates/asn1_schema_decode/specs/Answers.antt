-- Short names for what calls of a decoder return.
use Rattle.std.specs.Prelude.{◌≡◌, ◌||◌, ℕ, ℤ, Bool, true}
use Rattle.asn1_model.specs.Numbers.{is_within, is_count_within}
use Rattle.asn1_schema_constraints.specs.Bounds.{members_of}
use Rattle.asn1_schema_constraints.specs.Terms.{bounds_of}
use Rattle.asn1_schema_constraints.specs.declared.bounds.Bounded.{Bounded}
use Rattle.asn1_schema_constraints.specs.declared.lists.Constraints.{Constraints}
use Rattle.asn1_schema_laws.specs.Records.{Record}

-- The number satisfies the value constraint, or the constraint has an extension marker (X.680 51.4 and 52).
abbrev pub is_admitted : Constraints → ℤ → Bool
is_admitted c v = (bounds_of c.value).extensible || is_within (bounds_of c.value).range v

-- This record leads from old to new, with any number of elements that the user-defined type can hold.
abbrev pub Begins : {S : Type 0} → (S → Record → S → Type 0) → Bounded ℕ → (ℕ → Record) → S → S → Type 0
Begins step held begins old new = (n : ℕ) → is_count_within (members_of held) n ≡ true → step old (begins n) new
