-- Laws of unfolding.
use Rattle.std.specs.Prelude.{◌≡◌, ℕ, ◌≤◌, true, List}
use Rattle.asn1_model.specs.Value.{Value, depth}
use Rattle.asn1_model.specs.Schema.{Schema}
use Rattle.asn1_model.specs.Normal.{normal}
use Rattle.asn1_model.specs.Tidy.{is_normal, IsTidy}
use Rattle.asn1_model.specs.Lawful.{IsLawful}
use Rattle.asn1_model.specs.Rules.{Rules, canonical, IsEncoding}
use Rattle.asn1_model.specs.Lawful.{is_of}
use Rattle.asn1_model.specs.Versions.{grow, drop, Extends}
use Rattle.asn1_laws_values.specs.Tidied.{tidied}
use Rattle.asn1_laws_values.specs.Unfolding.{AgreesTo, AreRecursive, unfolded}

-- A value has the same normal form, encodings and canonical encoding in both types.
abbrev pub IsOneIn : Rules → Schema → Schema → Value → List ℕ → Type 0
IsOneIn r s s' v w =
    (normal s v ≡ normal s' v) × (canonical r s v ≡ canonical r s' v)
    × (IsEncoding r s v w → IsEncoding r s' v w) × (IsEncoding r s' v w → IsEncoding r s v w)

-- This holds for a value of at most a number of nested levels in types that agree for that number of levels and whose
-- defaults are in normal form.
abbrev pub MeansTheSame : Type 0
MeansTheSame =
    (r : Rules) (n : ℕ) (s s' : Schema) (v : Value) (w : List ℕ)
    → IsTidy s → IsTidy s' → AgreesTo n s s' → depth v ≤ n → IsOneIn r s s' v w

-- A default that is normal in both types has the same normal form in both.
abbrev pub NormalDefaultsAgree : Type 0
NormalDefaultsAgree =
    (s s' : Schema) (d : Value) → is_normal s d ≡ true → is_normal s' d ≡ true → normal s d ≡ normal s' d

-- Any type agrees with itself for any number of levels.
abbrev pub AgreesWithItself : Type 0
AgreesWithItself = (n : ℕ) (s : Schema) → AgreesTo n s s

-- Two unfoldings of one of several types that refer to one another, each to at least a number of levels, agree for
-- that number of levels.
abbrev pub UnfoldingsAgree : Type 0 → Type 0
UnfoldingsAgree K =
    (step : K → (K → Schema) → Schema) (k : K) (n i j : ℕ)
    → AreRecursive step → n ≤ i → n ≤ j → AgreesTo n (unfolded step i k) (unfolded step j k)

-- A value of at most that number of nested levels means the same in every unfolding of such a type to that number or
-- more.
abbrev pub UnfoldingsMeanTheSame : Type 0 → Type 0
UnfoldingsMeanTheSame K =
    (r : Rules) (step : K → (K → Schema) → Schema) (k : K) (n i j : ℕ) (v : Value) (w : List ℕ) → AreRecursive step
    → IsTidy (unfolded step i k) → IsTidy (unfolded step j k) → n ≤ i → n ≤ j → depth v ≤ n
    → IsOneIn r (unfolded step i k) (unfolded step j k) v w

-- Requiring defaults in normal form loses nothing: any type means the same, in all rules, as one whose defaults are.
abbrev pub NormalDefaultsLoseNothing : Type 0
NormalDefaultsLoseNothing =
    (r : Rules) (s : Schema) (v : Value) (w : List ℕ) → IsTidy (tidied s) × IsOneIn r s (tidied s) v w

-- A well-formed type stays so with each default in normal form.
abbrev pub TidiedIsLawful : Type 0
TidiedIsLawful = (s : Schema) → IsLawful s → IsLawful (tidied s)

-- A type has the same values with each default in normal form.
abbrev pub TidiedKeepsValues : Type 0
TidiedKeepsValues = (s : Schema) (v : Value) → is_of (tidied s) v ≡ is_of s v

-- A type is a newer version of another exactly if it is so with all defaults in normal form.
abbrev pub TidiedKeepsVersions : Type 0
TidiedKeepsVersions =
    (s t : Schema) → (Extends s t → Extends (tidied s) (tidied t)) × (Extends (tidied s) (tidied t) → Extends s t)

-- With all defaults in normal form, a value of one version is carried over to the same value of the other, and what is
-- left out of it is the same.
abbrev pub TidiedCarriesAlike : Type 0
TidiedCarriesAlike =
    (s t : Schema) (v : Value) → (grow (tidied s) (tidied t) v ≡ grow s t v)
    × (drop (tidied s) (tidied t) v ≡ drop s t v)
