-- Laws of the equality of values.
use Rattle.std.specs.Prelude.{◌≡◌, ℕ, ◌≤◌, true, List, Some}
use Rattle.asn1_model.specs.Value.{Value, bag, values_of, same, depth}
use Rattle.asn1_model.specs.Schema.{Schema}
use Rattle.asn1_model.specs.Normal.{normal}
use Rattle.asn1_model.specs.Tidy.{is_normal}
use Rattle.asn1_model.specs.Form.{arranged}

-- Equality of values is reflexive, symmetric and transitive.
abbrev pub SameIsEquivalence : Type 0
SameIsEquivalence =
    ((v : Value) → same v v ≡ true) × ((v w : Value) → same v w ≡ true → same w v ≡ true)
    × ((u v w : Value) → same u v ≡ true → same v w ≡ true → same u w ≡ true)

-- A SET OF is equal to one with the same elements in any order.
abbrev pub BagsHaveNoOrder : Type 0
BagsHaveNoOrder =
    (is : List ℕ) (vs ws : List Value) → arranged is vs ≡ Some ws
    → same (bag (values_of vs)) (bag (values_of ws)) ≡ true

-- Equal values have equal normal forms.
abbrev pub NormalRespectsSame : Type 0
NormalRespectsSame = (s : Schema) (v w : Value) → same v w ≡ true → same (normal s v) (normal s w) ≡ true

-- A normal form has at most as many nested levels as the value.
abbrev pub NormalNestsNoDeeper : Type 0
NormalNestsNoDeeper = (s : Schema) (v : Value) → depth (normal s v) ≤ depth v

-- A value in normal form is its own normal form.
abbrev pub NormalStays : Type 0
NormalStays = (s : Schema) (v : Value) → is_normal s v ≡ true → normal s v ≡ v

-- A value equal to one in normal form is in normal form.
abbrev pub SameIsAsNormal : Type 0
SameIsAsNormal = (s : Schema) (v w : Value) → same v w ≡ true → is_normal s v ≡ true → is_normal s w ≡ true
