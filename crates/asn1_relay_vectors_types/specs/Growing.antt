-- Newer versions of SET OF types and of extension addition groups, and components that do not change.
use Rattle.std.proofs.Common.{◌≤◌, ℕ, zero, suc, false, refl, arith}
use Rattle.asn1_model.specs.Schema.{Counts, Size, Schema, boolean, required, optional}
use Rattle.asn1_model.specs.Versions.{Extends}
use Rattle.asn1_schema_laws.specs.Additions.{group_type}
use Rattle.asn1_schema_laws.specs.Tables.{Table, scope, bag_type}
use Rattle.asn1_schema_types.specs.Versions.{ExtendsFrom}
use Rattle.asn1_schema_authored.proofs.Fields.{FieldsExtend, KeepsPresenceFrom}

-- A SET OF type whose element type was extended.
pub bag_extends : {k : ℕ} (z : Size) (c : Counts) {s s' : ℕ → Schema} → ExtendsFrom k s s'
    → ExtendsFrom (suc k) (bag_type z c s) (bag_type z c s')
unfolding bag_type scope Extends
bag_extends {k} z c {s} {s'} a = record { unfolded = at }
  where
    at : (n : ℕ) → suc k ≤ n → Extends (bag_type z c s n) (bag_type z c s' n)
    at zero h = absurd (omega arith)
    at (suc n) h = let l : k ≤ n = omega arith in (refl, refl, a.unfolded n l)

-- A group whose components were extended.
pub group_extends : {k : ℕ} (t t' : Table) → FieldsExtend k false t.root t'.root
    → ExtendsFrom (suc k) (group_type t) (group_type t')
unfolding group_type scope Extends
group_extends {k} t t' a = record { unfolded = at }
  where
    at : (n : ℕ) → suc k ≤ n → Extends (group_type t n) (group_type t' n)
    at zero h = absurd (omega arith)
    at (suc n) h = let l : k ≤ n = omega arith in a.unfolded n l

-- BOOLEAN does not change.
pub boolean_stays : {k : ℕ} → ExtendsFrom k (λ _. boolean) (λ _. boolean)
unfolding Extends
boolean_stays = record { unfolded = λ n h. tt }

-- A required component stays required.
pub required_stays : {k : ℕ} {s s' : ℕ → Schema} → KeepsPresenceFrom k s s' required required
required_stays = record { unfolded = λ n h. tt }

-- An optional component stays optional.
pub optional_stays : {k : ℕ} {s s' : ℕ → Schema} → KeepsPresenceFrom k s s' optional optional
optional_stays = record { unfolded = λ n h. tt }
