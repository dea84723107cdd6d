-- Types that mean the same at any depth to which they are unfolded, by their tables.
use Rattle.std.proofs.Common.{◌≤◌, ℕ, zero, suc, List, refl, inl, inr, arith}
use Rattle.asn1_model.specs.Schema.{Tag, Presence, Schema}
use Rattle.asn1_laws_values.specs.Unfolding.{AgreesTo, AgreesEach, AgreesAlternatives}
use Rattle.asn1_laws_values.proofs.Recursive.{agrees_with_itself}
use Rattle.asn1_schema_laws.specs.Tables.{Fields, no_field, field, Table, components_at, scope, sequence_type}
use Rattle.asn1_schema_constructed.specs.Sets.{set_type}
use Rattle.asn1_schema_constructed.specs.Tables.{Variants, no_variant, variant, alternatives_at, Choices, choice_type}
use Rattle.asn1_schema_types.specs.Versions.{Unfolds}

-- Components whose types do so.
pub record FieldsUnfold (fs : Fields) : Type 0 where
  pub alike : (k i j : ℕ) → k ≤ i → k ≤ j → AgreesEach k (components_at i fs) (components_at j fs)

-- A type that is not recursive.
pub constant_unfolds : {s : Schema} → Unfolds (λ _. s)
constant_unfolds {s} = record { alike = λ k i j a b. agrees_with_itself k s }

pub no_fields_unfold : FieldsUnfold no_field
unfolding components_at AgreesEach
no_fields_unfold = record { alike = λ k i j a b. tt }

pub field_unfolds : {t : List Tag} {o : Presence} {s : ℕ → Schema} {fs : Fields} → Unfolds s → FieldsUnfold fs → FieldsUnfold (field t o s fs)
unfolding components_at AgreesEach
field_unfolds h r = record { alike = λ k i j a b. (refl, refl, h.alike k i j a b, r.alike k i j a b) }

pub sequence_unfolds : (t : Table) → FieldsUnfold t.root → FieldsUnfold t.additions → Unfolds (sequence_type t)
unfolding sequence_type scope AgreesTo
sequence_unfolds t r q = record { alike = at }
  where
    at : (k i j : ℕ) → k ≤ i → k ≤ j → AgreesTo k (sequence_type t i) (sequence_type t j)
    at zero zero zero a b = inr refl
    at zero zero (suc j) a b = inl refl
    at zero (suc i) zero a b = inl refl
    at zero (suc i) (suc j) a b = inl refl
    at (suc k) zero j a b = absurd (omega arith)
    at (suc k) (suc i) zero a b = absurd (omega arith)
    at (suc k) (suc i) (suc j) a b =
        let a' : k ≤ i = omega arith in
        let b' : k ≤ j = omega arith in
        (r.alike k i j a' b', refl, q.alike k i j a' b')

pub set_unfolds : (t : Table) → FieldsUnfold t.root → FieldsUnfold t.additions → Unfolds (set_type t)
unfolding scope AgreesTo
set_unfolds t r q = record { alike = at }
  where
    at : (k i j : ℕ) → k ≤ i → k ≤ j → AgreesTo k (set_type t i) (set_type t j)
    at zero zero zero a b = inr refl
    at zero zero (suc j) a b = inl refl
    at zero (suc i) zero a b = inl refl
    at zero (suc i) (suc j) a b = inl refl
    at (suc k) zero j a b = absurd (omega arith)
    at (suc k) (suc i) zero a b = absurd (omega arith)
    at (suc k) (suc i) (suc j) a b =
        let a' : k ≤ i = omega arith in
        let b' : k ≤ j = omega arith in
        (r.alike k i j a' b', refl, q.alike k i j a' b')

-- Alternatives whose types do so.
pub record VariantsUnfold (vs : Variants) : Type 0 where
  pub alike : (k i j : ℕ) → k ≤ i → k ≤ j → AgreesAlternatives k (alternatives_at i vs) (alternatives_at j vs)

pub no_variants_unfold : VariantsUnfold no_variant
unfolding alternatives_at AgreesAlternatives
no_variants_unfold = record { alike = λ k i j a b. tt }

pub variant_unfolds : {t : Tag} {s : ℕ → Schema} {vs : Variants} → Unfolds s → VariantsUnfold vs → VariantsUnfold (variant t s vs)
unfolding alternatives_at AgreesAlternatives
variant_unfolds h r = record { alike = λ k i j a b. (refl, h.alike k i j a b, r.alike k i j a b) }

pub choice_unfolds : (t : Choices) → VariantsUnfold t.root → VariantsUnfold t.additions → Unfolds (choice_type t)
unfolding choice_type scope AgreesTo
choice_unfolds t r q = record { alike = at }
  where
    at : (k i j : ℕ) → k ≤ i → k ≤ j → AgreesTo k (choice_type t i) (choice_type t j)
    at zero zero zero a b = inr refl
    at zero zero (suc j) a b = inl refl
    at zero (suc i) zero a b = inl refl
    at zero (suc i) (suc j) a b = inl refl
    at (suc k) zero j a b = absurd (omega arith)
    at (suc k) (suc i) zero a b = absurd (omega arith)
    at (suc k) (suc i) (suc j) a b =
        let a' : k ≤ i = omega arith in
        let b' : k ≤ j = omega arith in
        (r.alike k i j a' b', refl, q.alike k i j a' b')
