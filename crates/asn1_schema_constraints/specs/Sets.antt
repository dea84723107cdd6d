-- The effective constraints of a list of constraints.
use Rattle.std.specs.Prelude.{ℕ, ℤ, leb, Bool, true, false, ◌||◌, List, fold, map, Option, Some, None, is_some}
use Rattle.asn1_model.specs.Numbers.{is_at_most}
use Rattle.asn1_schema_constraints.specs.Bounds.{meet, admits_number, admits_count}
use Rattle.asn1_schema_constraints.specs.declared.parts.Value.{Value}
use Rattle.asn1_schema_constraints.specs.declared.parts.Size.{Size}
use Rattle.asn1_schema_constraints.specs.declared.extensions.Extensible.{Extensible}
use Rattle.asn1_schema_constraints.specs.declared.extensions.PermittedAlphabet.{PermittedAlphabet}
use Rattle.asn1_schema_constraints.specs.declared.lists.Constraint.{Constraint}
use Rattle.asn1_schema_constraints.specs.declared.lists.Constraint.TheVariants.{Value as OfValue, Size as OfSize}
use Rattle.asn1_schema_constraints.specs.declared.lists.Constraint.TheVariants.{PermittedAlphabet as OfAlphabet}
use Rattle.asn1_schema_constraints.specs.declared.lists.Constraint.TheVariants.{Extensible as Marker}
use Rattle.asn1_schema_constraints.specs.declared.lists.ConstraintDiscriminant.{ConstraintDiscriminant}
use Rattle.asn1_schema_constraints.specs.declared.lists.ConstraintDiscriminant.TheVariants as kind
use Rattle.asn1_schema_constraints.specs.declared.lists.Constraints.{Constraints}

-- The kind of a constraint.
abbrev pub kind_of : Constraint → ConstraintDiscriminant
kind_of (OfValue c) = kind.Value
kind_of (OfSize c) = kind.Size
kind_of (OfAlphabet c) = kind.PermittedAlphabet
kind_of Marker = kind.Extensible

-- The number of a kind.
abbrev pub kind_number : ConstraintDiscriminant → ℕ
kind_number kind.Value = 0
kind_number kind.Size = 1
kind_number kind.PermittedAlphabet = 2
kind_number kind.Extensible = 3

-- The constraint on a value, if it is one.
abbrev pub value_part : Constraint → Option (Extensible Value)
value_part (OfValue c) = Some c
value_part c = None

-- The constraint on a size, if it is one.
abbrev pub size_part : Constraint → Option (Extensible Size)
size_part (OfSize c) = Some c
size_part c = None

-- The constraint on characters, if it is one.
abbrev pub alphabet_part : Constraint → Option (Extensible PermittedAlphabet)
alphabet_part (OfAlphabet c) = Some c
alphabet_part c = None

-- Whether a constraint has an extension marker (X.680 52).
abbrev pub has_additions : {X : Type 0} → Extensible X → Bool
has_additions c = is_some c.extensible

-- Whether a constraint has an extension marker, or is the extension marker of its type.
abbrev pub has_marker : Constraint → Bool
has_marker (OfValue c) = has_additions c
has_marker (OfSize c) = has_additions c
has_marker (OfAlphabet c) = has_additions c
has_marker Marker = true

-- Whether there is a constraint, and it has an extension marker.
abbrev pub is_extended : {X : Type 0} → Option (Extensible X) → Bool
is_extended None = false
is_extended (Some c) = has_additions c

-- Whether a constraint or the type itself has an extension marker.
abbrev pub is_extensible : Constraints → Bool
is_extensible c = c.is_extensible || (is_extended c.value || (is_extended c.size || is_extended c.permitted_alphabet))

-- No constraints, as a Rust value.
abbrev pub unconstrained : Constraints
unconstrained = record { value = None; size = None; permitted_alphabet = None; is_extensible = false }

-- One constraint.
abbrev pub alone : Constraint → Constraints
alone (OfValue c) = record unconstrained { value = Some c }
alone (OfSize c) = record unconstrained { size = Some c }
alone (OfAlphabet c) = record unconstrained { permitted_alphabet = Some c }
alone Marker = record unconstrained { is_extensible = true }

-- What follows the later extension marker, or else the earlier one.
abbrev pub later_marker : {X : Type 0} → Option X → Option X → Option X
later_marker a None = a
later_marker a (Some b) = Some b

-- Two constraints of a kind, applied in turn: the intersection of the roots, with an extension marker if either has
-- one (X.680 50 and 52).
abbrev pub in_turn : {X : Type 0} → (X → X → X) → Extensible X → Extensible X → Extensible X
in_turn met a b = record {
  constraint = met a.constraint b.constraint;
  extensible = later_marker a.extensible
      b.extensible;
}

-- Two optional constraints of a kind, applied in turn.
abbrev pub both_parts : {X : Type 0} → (X → X → X) → Option (Extensible X) → Option (Extensible X)
    → Option (Extensible X)
both_parts met (Some a) (Some b) = Some (in_turn met a b)
both_parts met (Some a) None = Some a
both_parts met None o = o

-- The intersection of two value constraints (X.680 51.4).
abbrev pub met_values : Value → Value → Value
met_values a b = record { value = meet is_at_most a.value b.value }

-- The intersection of two size constraints (X.680 51.5).
abbrev pub met_sizes : Size → Size → Size
met_sizes a b = record { range = meet leb a.range b.range }

-- The characters of the later of two alphabets, which are among those of the earlier (X.680 50.8).
abbrev pub later_alphabet : PermittedAlphabet → PermittedAlphabet → PermittedAlphabet
later_alphabet a b = b

-- Constraints followed by other ones, kind by kind.
abbrev pub both : Constraints → Constraints → Constraints
both a b = record {
  value = both_parts met_values a.value b.value;
  size = both_parts met_sizes a.size b.size;
  permitted_alphabet = both_parts later_alphabet a.permitted_alphabet b.permitted_alphabet;
  is_extensible = a.is_extensible || b.is_extensible;
}

-- The effective constraints of a list, applied in turn.
abbrev pub all_of : List Constraint → Constraints
all_of cs = fold both unconstrained (map alone cs)

-- Whether the root of a constraint passes a test, if there is a constraint.
abbrev pub root_passes : {X : Type 0} → (X → Bool) → Option (Extensible X) → Bool
root_passes test None = true
root_passes test (Some c) = test c.constraint

-- Whether the roots of constraints admit a number (X.680 51.4).
abbrev pub admit_number : Constraints → ℤ → Bool
admit_number c v = root_passes (λ root. admits_number root.value v) c.value

-- Whether the roots of constraints admit a size (X.680 51.5).
abbrev pub admit_count : Constraints → ℕ → Bool
admit_count c n = root_passes (λ root. admits_count root.range n) c.size
