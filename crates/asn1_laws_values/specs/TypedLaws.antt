-- Laws of the values of a type.
use Rattle.std.specs.Prelude.{◌≡◌, ℕ, IsTrue, List}
use Rattle.asn1_model.specs.Value.{Value, same}
use Rattle.asn1_model.specs.Schema.{Schema}
use Rattle.asn1_model.specs.Normal.{normal}
use Rattle.asn1_model.specs.Lawful.{IsLawful}
use Rattle.asn1_model.specs.Rules.{Rules, IsEncoding}
use Rattle.asn1_model.specs.Lawful.{is_of}
use Rattle.asn1_model.specs.Versions.{Extends}
use Rattle.asn1_laws_values.specs.Equal.{are_equal}

-- The normal form of a value of a type is a value of that type.
abbrev pub NormalKeepsTheType : Type 0
NormalKeepsTheType = (s : Schema) (v : Value) → IsLawful s → IsTrue (is_of s v) → IsTrue (is_of s (normal s v))

-- Two values of a type are equal exactly if their normal forms are, up to the order of the elements of a SET OF.
abbrev pub EqualIfNormalFormsAre : Type 0
EqualIfNormalFormsAre = (s : Schema) (v w : Value) → are_equal s v w ≡ same (normal s v) (normal s w)

-- What a reader accepts is a value of the type, in all rules.
abbrev pub ReadIsOfTheType : Type 0
ReadIsOfTheType = (r : Rules) (s : Schema) (v : Value) (w : List ℕ) → IsEncoding r s v w → IsTrue (is_of s v)

-- A well-formed type is a version of itself.
abbrev pub LawfulExtendsItself : Type 0
LawfulExtendsItself = (s : Schema) → IsLawful s → Extends s s
