-- Types that agree for a number of levels, as two unfoldings of one recursive type do.
use Rattle.std.specs.Prelude.{◌≡◌, ◌⊎◌, ℕ, zero, suc, Bool, true, false, ◌&&◌, IsTrue}
use Rattle.asn1_model.specs.Value.{absent, end}
use Rattle.asn1_model.specs.Types.{one_of, or_tagged, closed, has_default, needs, may_have, list, any_size, roots}
use Rattle.asn1_model.specs.Schema.{Schema, cut, null, sequence_of, set_of, sequence, set, group, choice, Components}
use Rattle.asn1_model.specs.Schema.{no_component, component, Alternatives, no_alternative, alternative}

-- types that take a level, and the cut of a recursive type
abbrev pub is_constructed : Schema → Bool
is_constructed cut = true
is_constructed (sequence_of z h s) = true
is_constructed (set_of z h s) = true
is_constructed (sequence cs e adds) = true
is_constructed (set cs e adds) = true
is_constructed (group cs) = true
is_constructed (choice roots e adds) = true
is_constructed s = false

-- equal down to a number of levels, and below them any types that take a level
unfoldable mutual
  pub AgreesTo : ℕ → Schema → Schema → Type 0
  AgreesTo zero s s' = IsTrue (is_constructed s && is_constructed s') ⊎ (s ≡ s')
  AgreesTo (suc n) (sequence_of z h s) (sequence_of z' h' s') = (z ≡ z') × (h ≡ h') × AgreesTo n s s'
  AgreesTo (suc n) (set_of z h s) (set_of z' h' s') = (z ≡ z') × (h ≡ h') × AgreesTo n s s'
  AgreesTo (suc n) (sequence cs e adds) (sequence cs' e' adds') =
      AgreesEach n cs cs' × (e ≡ e') × AgreesEach n adds adds'
  AgreesTo (suc n) (set cs e adds) (set cs' e' adds') = AgreesEach n cs cs' × (e ≡ e') × AgreesEach n adds adds'
  AgreesTo (suc n) (group cs) (group cs') = AgreesEach n cs cs'
  AgreesTo (suc n) (choice roots e adds) (choice roots' e' adds') =
      AgreesAlternatives n roots roots' × (e ≡ e') × AgreesAlternatives n adds adds'
  AgreesTo (suc n) s s' = s ≡ s'

  pub AgreesEach : ℕ → Components → Components → Type 0
  AgreesEach n no_component no_component = Unit {0}
  AgreesEach n (component t o s cs) (component t' o' s' cs') =
      (t ≡ t') × (o ≡ o') × AgreesTo n s s' × AgreesEach n cs cs'
  AgreesEach n cs cs' = ⊥

  pub AgreesAlternatives : ℕ → Alternatives → Alternatives → Type 0
  AgreesAlternatives n no_alternative no_alternative = Unit {0}
  AgreesAlternatives n (alternative t s others) (alternative t' s' others') =
      (t ≡ t') × AgreesTo n s s' × AgreesAlternatives n others others'
  AgreesAlternatives n others others' = ⊥

-- Named types that refer to one another. The step builds each type from the types of the names: each takes a level,
-- and from types that agree for a number of levels it builds types that agree for one more. A SEQUENCE OF or SEQUENCE
-- inside a type may have its own name, so that it takes a level.
pub record AreRecursive {K : Type 0} (step : K → (K → Schema) → Schema) : Type 0 where
  pub nests : (k : K) (types : K → Schema) → IsTrue (is_constructed (step k types))
  pub keeps : (n : ℕ) (types others : K → Schema) → ((k : K) → AgreesTo n (types k) (others k)) → (k : K)
      → AgreesTo (suc n) (step k types) (step k others)

-- Such types unfolded to a number of levels, and cut below.
abbrev pub unfolded : {K : Type 0} → (K → (K → Schema) → Schema) → ℕ → K → Schema
unfolded step zero k = cut
unfolded step (suc n) k = step k (λ l. unfolded step n l)

-- ---- systems for rows

-- Nest ::= CHOICE {leaf [0] NULL, more [1] Nest}
abbrev pub nest_step : Unit {0} → (Unit {0} → Schema) → Schema
nest_step k types = one_of (or_tagged 0 null (or_tagged 1 (types tt) no_alternative))

-- T ::= SEQUENCE {n T DEFAULT {}, l SEQUENCE OF T}, with the SEQUENCE OF in the same level
abbrev pub default_step : Unit {0} → (Unit {0} → Schema) → Schema
default_step k types =
    closed (has_default 0 (types tt) (roots (absent end)) (needs 1 (list any_size (types tt)) no_component))

-- T ::= SEQUENCE {l SEQUENCE OF T}, with its own name for the SEQUENCE OF
pub data TreeName : Type 0 where
  tree : TreeName
  branches : TreeName

abbrev pub tree_step : TreeName → (TreeName → Schema) → Schema
tree_step tree types = closed (needs 0 (types branches) no_component)
tree_step branches types = list any_size (types tree)

-- A ::= SEQUENCE {b B OPTIONAL}, B ::= CHOICE {leaf [0] NULL, a [1] A}, P ::= SEQUENCE {a A}: two mutually recursive
-- types, and one that contains them
pub data MutualName : Type 0 where
  first : MutualName
  second : MutualName
  holder : MutualName

abbrev pub mutual_step : MutualName → (MutualName → Schema) → Schema
mutual_step first types = closed (may_have 0 (types second) no_component)
mutual_step second types = one_of (or_tagged 0 null (or_tagged 1 (types first) no_alternative))
mutual_step holder types = closed (needs 0 (types first) no_component)

-- Recursive types.
abbrev pub RecursiveRows : Type 0
RecursiveRows = AreRecursive nest_step × AreRecursive default_step × AreRecursive tree_step × AreRecursive mutual_step

-- SEQUENCE OF, SEQUENCE and CHOICE take a level each.
abbrev pub LevelRows : Type 0
LevelRows =
    (unfolded tree_step 1 tree ≡ closed (needs 0 cut no_component))
    × (unfolded tree_step 2 tree ≡ closed (needs 0 (list any_size cut) no_component))
    × (unfolded tree_step 3 tree ≡ closed (needs 0 (list any_size (closed (needs 0 cut no_component))) no_component))
    × (unfolded mutual_step 1 holder ≡ closed (needs 0 cut no_component))
    × (unfolded mutual_step 3 holder ≡ closed
    (needs 0 (closed (may_have 0
    (one_of (or_tagged 0 null (or_tagged 1 cut no_alternative))) no_component)) no_component))
