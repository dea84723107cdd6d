-- Laws of single messages.
use Rattle.std.specs.Prelude.{◌≡◌, ℕ, Bool, true, false, IsTrue, List, Some}
use Rattle.asn1_model.specs.Value.{Value}
use Rattle.asn1_model.specs.Schema.{Schema}
use Rattle.asn1_model.specs.Normal.{normal}
use Rattle.asn1_model.specs.Tidy.{is_normal}
use Rattle.asn1_model.specs.Form.{written, Reads}
use Rattle.asn1_model.specs.Rules.{Rules, uper, aper, uper_strict, aper_strict, oer, coer, canonical, IsEncoding}
use Rattle.asn1_model.specs.Per
use Rattle.asn1_model.specs.Oer

-- A normal form is its own normal form and satisfies `is_normal`.
abbrev pub NormalForms : Type 0
NormalForms = (s : Schema) (v : Value) → (normal s (normal s v) ≡ normal s v) × (is_normal s (normal s v) ≡ true)

-- What a reader accepts, a reader with more freedoms accepts as the same value.
abbrev pub PerWidens : Type 0
PerWidens =
    (few more : Per.Freedom → Bool) (x : Per.BitForm) (p : ℕ) (w : List Bool)
    → ((c : Per.Freedom) → IsTrue (few c) → IsTrue (more c)) → Reads few x p w → Reads more x p w

abbrev pub OerWidens : Type 0
OerWidens =
    (few more : Oer.Freedom → Bool) (x : Oer.OctetForm) (p : ℕ) (w : List ℕ)
    → ((c : Oer.Freedom) → IsTrue (few c) → IsTrue (more c)) → Reads few x p w → Reads more x p w

-- No freedoms.
abbrev pub canonically : {F : Type 0} → F → Bool
canonically c = false

-- A reader without freedoms accepts exactly the canonical encoding.
abbrev pub PerCanonical : Type 0
PerCanonical =
    (x : Per.BitForm) (p : ℕ) (w : List Bool) → (written x p ≡ Some w → Reads canonically x p w)
    × (Reads canonically x p w → written x p ≡ Some w)

abbrev pub OerCanonical : Type 0
OerCanonical =
    (x : Oer.OctetForm) (p : ℕ) (w : List ℕ) → (written x p ≡ Some w → Reads canonically x p w)
    × (Reads canonically x p w → written x p ≡ Some w)

-- The lenient reader accepts all that the strict one does.
abbrev pub StrictIsLenient : Type 0
StrictIsLenient =
    (s : Schema) (v : Value) (w : List ℕ) → (IsEncoding uper_strict s v w → IsEncoding uper s v w)
    × (IsEncoding aper_strict s v w → IsEncoding aper s v w) × (IsEncoding coer s v w → IsEncoding oer s v w)

-- A value that a strict reader accepts is in normal form: no component is encoded at its default, and no group is
-- empty.
abbrev pub StrictReadsNormal : Type 0
StrictReadsNormal =
    (s : Schema) (v : Value) (w : List ℕ) → (IsEncoding uper_strict s v w → normal s v ≡ v)
    × (IsEncoding aper_strict s v w → normal s v ≡ v) × (IsEncoding coer s v w → normal s v ≡ v)

-- What is written is read, in the same rules, as the normal form of the value.
abbrev pub CanonicalIsRead : Type 0
CanonicalIsRead =
    (r : Rules) (s : Schema) (v : Value) (w : List ℕ) → canonical r s v ≡ Some w → IsEncoding r s (normal s v) w
