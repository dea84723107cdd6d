-- Laws of when a type is a newer version of another.
use Rattle.std.specs.Prelude.{◌≡◌, true, IsTrue, Some}
use Rattle.asn1_model.specs.Value.{Value, same, depth}
use Rattle.asn1_model.specs.Schema.{Schema}
use Rattle.asn1_model.specs.Normal.{normal}
use Rattle.asn1_model.specs.Tidy.{is_normal}
use Rattle.asn1_model.specs.Lawful.{is_of}
use Rattle.asn1_model.specs.Versions.{Extends, drop, grow}

-- A newer version of a newer version is a newer version.
abbrev pub ExtendingIsTransitive : Type 0
ExtendingIsTransitive = (s t u : Schema) → Extends s t → Extends t u → Extends s u

-- Carrying a value over to a newer version, and then to one newer still, is the same as carrying it over at once.
abbrev pub GrowingTwiceIsGrowing : Type 0
GrowingTwiceIsGrowing =
    (s t u : Schema) (v w x : Value) → Extends s t → Extends t u → grow s t v ≡ Some w → grow t u w ≡ Some x
    → grow s u v ≡ Some x

-- Two values are equal exactly if they are equal when carried over to a newer version.
abbrev pub GrowingKeepsValuesApart : Type 0
GrowingKeepsValuesApart =
    (s t : Schema) (v w x y : Value) → Extends s t → grow s t v ≡ Some x → grow s t w ≡ Some y → same x y ≡ same v w

-- If a value can be carried over to a newer version, so can any equal value, and the results are equal.
abbrev pub SameIsCarriedAlike : Type 0
SameIsCarriedAlike =
    (s t : Schema) (v w x : Value) → Extends s t → same w v ≡ true → grow s t v ≡ Some x → (y : Value)
    × (grow s t w ≡ Some y) × (same y x ≡ true)

-- The normal form of a value is carried over to the normal form of the carried value, and a value in normal form to
-- one in normal form.
abbrev pub GrowingKeepsNormalForms : Type 0
GrowingKeepsNormalForms =
    (s t : Schema) (v w : Value) → Extends s t → grow s t v ≡ Some w → (grow s t (normal s v) ≡ Some (normal t w))
    × (is_normal s v ≡ true → is_normal t w ≡ true)

-- Equal values have the same number of nested levels.
abbrev pub SameNestsAlike : Type 0
SameNestsAlike = (v w : Value) → same v w ≡ true → depth v ≡ depth w

-- A value carried over to a newer version has the same number of nested levels.
abbrev pub GrowingKeepsLevels : Type 0
GrowingKeepsLevels = (s t : Schema) (v w : Value) → grow s t v ≡ Some w → depth w ≡ depth v

-- A value of the older version in normal form, carried over to the newer one and then reduced to what the older one
-- knows, is unchanged.
abbrev pub DroppingUndoesGrowing : Type 0
DroppingUndoesGrowing =
    (s t : Schema) (v w : Value) → Extends s t → IsTrue (is_of s v) → IsTrue (is_normal s v) → grow s t v ≡ Some w
    → drop s t w ≡ Some v
