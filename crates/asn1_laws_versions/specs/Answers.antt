-- The result of translating octets from one set of rules to another.
use Rattle.std.specs.Prelude.{◌≡◌, ◌≢◌, ℕ, ◌≤◌, List, [], ◌++◌, Some, None}
use Rattle.asn1_model.specs.Schema.{Schema}
use Rattle.asn1_model.specs.Value.{Value, depth}
use Rattle.asn1_model.specs.Rules.{Rules, canonical, IsEncoding}

-- The octets are one encoding of the value, which has at most 128 nested levels.
abbrev pub IsMessage : Rules → Schema → Value → List ℕ → Type 0
IsMessage r s v w = IsEncoding r s v w × (depth v ≤ 128)

-- The possible answers.
pub data Answer : Type 0 where
  -- these octets
  answered : List ℕ → Answer
  -- the octets do not begin with a message
  not_an_encoding : Answer
  -- the octets begin with a message, and others follow
  surplus : Answer
  -- the value of the message has no encoding in the target rules
  no_target : Answer

-- The answer to given octets, from one set of rules to another.
abbrev pub IsAnswer : Rules → Rules → Schema → List ℕ → Answer → Type 0
IsAnswer source target s w (answered octets) =
    (v : Value) × IsMessage source s v w × (canonical target s v ≡ Some octets)
IsAnswer source target s w not_an_encoding =
    (front behind : List ℕ) (v : Value) → front ++ behind ≡ w → IsMessage source s v front → ⊥
IsAnswer source target s w surplus =
    (front : List ℕ) × (behind : List ℕ) × (v : Value)
    × (front ++ behind ≡ w) × (behind ≢ []) × IsMessage source s v front
IsAnswer source target s w no_target =
    (v : Value) × IsMessage source s v w × (canonical target s v ≡ None)
