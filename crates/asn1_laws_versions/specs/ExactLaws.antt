-- Laws of what one version of a type reads and refuses of what the other writes.
use Rattle.std.specs.Prelude.{◌≡◌, ℕ, Bool, true, false, List, ◌++◌, Some}
use Rattle.asn1_model.specs.Value.{Value, same}
use Rattle.asn1_model.specs.Schema.{Schema}
use Rattle.asn1_model.specs.Lawful.{IsLawful}
use Rattle.asn1_model.specs.Normal.{normal}
use Rattle.asn1_model.specs.Rules.{Rules, uper, aper, uper_strict, aper_strict, oer, coer, canonical, IsEncoding}
use Rattle.asn1_model.specs.Versions.{Extends, drop, grow}

-- Whether the reader of these rules accepts only values in normal form.
abbrev pub is_strict : Rules → Bool
is_strict uper = false
is_strict aper = false
is_strict oer = false
is_strict uper_strict = true
is_strict aper_strict = true
is_strict coer = true

-- In the strict rules the value is in normal form.
abbrev pub MayBeRead : Rules → Schema → Value → Type 0
MayBeRead r s v = is_strict r ≡ true → normal s v ≡ v

-- A value is what the older version sees of a value of the newer, up to the order of the elements of a SET OF, and in
-- the strict rules it is in normal form.
abbrev pub IsLeft : Rules → Schema → Schema → Value → Value → Type 0
IsLeft r old new v x = (u : Value) × (drop old new v ≡ Some u) × (same x u ≡ true) × MayBeRead r old x

-- A value is a value of the older version carried over to the newer, up to the order of the elements of a SET OF.
abbrev pub IsGrown : Schema → Schema → Value → Value → Type 0
IsGrown old new u x = (v : Value) × (grow old new (normal old u) ≡ Some v) × (same x v ≡ true)

-- The older version reads what the newer one writes as a value exactly if this is the written value without what the
-- older version lacks and, in the strict rules, in normal form. It reads all of the octets, and no other prefix,
-- whatever follows.
abbrev pub OlderReadsExactly : Type 0
OlderReadsExactly =
    (r : Rules) (old new : Schema) (v x : Value) (w : List ℕ)
    → IsLawful old → IsLawful new → Extends old new → canonical r new v ≡ Some w
    → (IsLeft r old new v x → IsEncoding r old x w)
    × ((a y z : List ℕ) → IsEncoding r old x a → a ++ y ≡ w ++ z → (a ≡ w) × IsLeft r old new v x)

-- The newer version reads what the older one writes as a value exactly if this is the same value, with everything
-- absent that only the newer version has. It reads all of the octets, and no other prefix, whatever follows.
abbrev pub NewerReadsExactly : Type 0
NewerReadsExactly =
    (r : Rules) (old new : Schema) (u x : Value) (w : List ℕ)
    → IsLawful old → IsLawful new → Extends old new → canonical r old u ≡ Some w
    → (IsGrown old new u x → IsEncoding r new x w)
    × ((a y z : List ℕ) → IsEncoding r new x a → a ++ y ≡ w ++ z → (a ≡ w) × IsGrown old new u x)
