-- Streams: octets as messages, one after the other, and a rest.
use Rattle.std.specs.Prelude.{◌≡◌, ℕ, ◌≤◌, true, List, [], ◌∷◌, ◌++◌, length}
use Rattle.asn1_model.specs.Value.{Value, same, depth}
use Rattle.asn1_model.specs.Schema.{Schema}
use Rattle.asn1_model.specs.Rules.{Rules, IsEncoding}

-- the nested levels that a reader accepts
abbrev pub most_levels : ℕ
most_levels = 128

-- octets, and the value that they encode
pub record Message : Type 0 where
  pub octets : List ℕ
  pub value : Value

-- an encoding of 1 to limit octets, of a value with no more nested levels than a reader accepts
pub record IsMessageWithin (r : Rules) (s : Schema) (limit : ℕ) (m : Message) : Type 0 where
  pub is_encoding : IsEncoding r s m.value m.octets
  pub is_shallow : depth m.value ≤ most_levels
  pub is_some : 1 ≤ length m.octets
  pub is_short : length m.octets ≤ limit

-- no prefix is a message
abbrev pub HasNoMessage : Rules → Schema → ℕ → List ℕ → Type 0
HasNoMessage r s limit w = (m : Message) (x : List ℕ) → m.octets ++ x ≡ w → IsMessageWithin r s limit m → ⊥

-- octets divide into these messages, and a rest no prefix of which is a message
abbrev pub Divides : Rules → Schema → ℕ → List Message → List ℕ → List ℕ → Type 0
Divides r s limit [] rest w = (rest ≡ w) × HasNoMessage r s limit rest
Divides r s limit (m ∷ ms) rest w =
    IsMessageWithin r s limit m × (x : List ℕ) × (m.octets ++ x ≡ w) × Divides r s limit ms rest x

-- the same octets at each index, of equal values
abbrev pub AreSame : List Message → List Message → Type 0
AreSame [] [] = Unit {0}
AreSame (m ∷ ms) (n ∷ ns) = (m.octets ≡ n.octets) × (same m.value n.value ≡ true) × AreSame ms ns
AreSame ms ns = ⊥
