-- Laws of the prefixes of octets that are encodings.
use Rattle.std.specs.Prelude.{◌≡◌, ℕ, true, List, ◌++◌}
use Rattle.asn1_model.specs.Value.{Value, same}
use Rattle.asn1_model.specs.Schema.{Schema}
use Rattle.asn1_model.specs.Lawful.{IsLawful}
use Rattle.asn1_model.specs.Rules.{Rules, IsEncoding}

-- At most one prefix of some octets is an encoding of a well-formed type, and of one value, up to the order of the
-- elements of a SET OF.
abbrev pub OneFrontIn : Rules → Type 0
OneFrontIn r =
    (s : Schema) (v u : Value) (a b x y : List ℕ)
    → IsLawful s → IsEncoding r s v a → IsEncoding r s u b → a ++ x ≡ b ++ y → (a ≡ b) × (same v u ≡ true)

-- This holds in all rules.
abbrev pub OneFront : Type 0
OneFront = (r : Rules) → OneFrontIn r
