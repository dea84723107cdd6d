-- Types that mean the same at any depth of unfolding: SEQUENCE OF, SET OF, extension addition groups, and a recursive
-- CHOICE.
use Rattle.std.proofs.Common.{◌≤◌, ℕ, zero, suc, refl, inl, inr, arith}
use Rattle.asn1_model.specs.Schema.{Counts, Size, Schema, null}
use Rattle.asn1_laws_values.specs.Unfolding.{AgreesTo, AgreesAlternatives}
use Rattle.asn1_schema_constructed.specs.Recursive.{recursive_choice}
use Rattle.asn1_schema_constructed.specs.Tables.{alternatives_at, choice_type}
use Rattle.asn1_relay_types.specs.Nest.{nest_schema}
use Rattle.asn1_schema_laws.specs.Additions.{group_type}
use Rattle.asn1_schema_laws.specs.Tables.{Table, scope, list_type, bag_type}
use Rattle.asn1_schema_types.specs.Versions.{Unfolds}
use Rattle.asn1_schema_authored.proofs.Unfolding.{FieldsUnfold, constant_unfolds}

-- A SEQUENCE OF such elements.
pub list_unfolds : (z : Size) (c : Counts) {s : ℕ → Schema} → Unfolds s → Unfolds (list_type z c s)
unfolding list_type scope AgreesTo
list_unfolds z c {s} h = record { alike = at }
  where
    at : (k i j : ℕ) → k ≤ i → k ≤ j → AgreesTo k (list_type z c s i) (list_type z c s j)
    at zero zero zero a b = inr refl
    at zero zero (suc j) a b = inl refl
    at zero (suc i) zero a b = inl refl
    at zero (suc i) (suc j) a b = inl refl
    at (suc k) zero j a b = absurd (omega arith)
    at (suc k) (suc i) zero a b = absurd (omega arith)
    at (suc k) (suc i) (suc j) a b =
        let a' : k ≤ i = omega arith in
        let b' : k ≤ j = omega arith in
        (refl, refl, h.alike k i j a' b')

-- A SET OF such elements.
pub bag_unfolds : (z : Size) (c : Counts) {s : ℕ → Schema} → Unfolds s → Unfolds (bag_type z c s)
unfolding bag_type scope AgreesTo
bag_unfolds z c {s} h = record { alike = at }
  where
    at : (k i j : ℕ) → k ≤ i → k ≤ j → AgreesTo k (bag_type z c s i) (bag_type z c s j)
    at zero zero zero a b = inr refl
    at zero zero (suc j) a b = inl refl
    at zero (suc i) zero a b = inl refl
    at zero (suc i) (suc j) a b = inl refl
    at (suc k) zero j a b = absurd (omega arith)
    at (suc k) (suc i) zero a b = absurd (omega arith)
    at (suc k) (suc i) (suc j) a b =
        let a' : k ≤ i = omega arith in
        let b' : k ≤ j = omega arith in
        (refl, refl, h.alike k i j a' b')

-- A group of such components.
pub group_unfolds : (t : Table) → FieldsUnfold t.root → Unfolds (group_type t)
unfolding group_type scope AgreesTo
group_unfolds t r = record { alike = at }
  where
    at : (k i j : ℕ) → k ≤ i → k ≤ j → AgreesTo k (group_type t i) (group_type t j)
    at zero zero zero a b = inr refl
    at zero zero (suc j) a b = inl refl
    at zero (suc i) zero a b = inl refl
    at zero (suc i) (suc j) a b = inl refl
    at (suc k) zero j a b = absurd (omega arith)
    at (suc k) (suc i) zero a b = absurd (omega arith)
    at (suc k) (suc i) (suc j) a b =
        let a' : k ≤ i = omega arith in
        let b' : k ≤ j = omega arith in
        r.alike k i j a' b'

-- CHOICE {leaf [0] NULL, more [1] Nest}
nests_agree : (k i j : ℕ) → k ≤ i → k ≤ j → AgreesTo k (nest_schema i) (nest_schema j)
unfolding recursive_choice choice_type scope alternatives_at AgreesTo AgreesAlternatives
nests_agree zero zero zero a b = inr refl
nests_agree zero zero (suc j) a b = inl refl
nests_agree zero (suc i) zero a b = inl refl
nests_agree zero (suc i) (suc j) a b = inl refl
nests_agree (suc k) zero j a b = absurd (omega arith)
nests_agree (suc k) (suc i) zero a b = absurd (omega arith)
nests_agree (suc k) (suc i) (suc j) a b =
    let a' : k ≤ i = omega arith in
    let b' : k ≤ j = omega arith in
    ((refl, (constant_unfolds {s = null}).alike k i j a' b', (refl, nests_agree k i j a' b', tt)), refl, tt)

pub nest_unfolds : Unfolds nest_schema
nest_unfolds = record { alike = nests_agree }
