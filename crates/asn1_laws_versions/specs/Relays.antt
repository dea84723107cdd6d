-- What a relay of the older version of a type does with messages of the newer one.
use Rattle.std.specs.Prelude.{◌≡◌, ◌≢◌, ◌⊎◌, ℕ, suc, ◌≤◌, ◌<◌, List, [], ◌∷◌, ◌++◌, length, Option, Some, None}
use Rattle.asn1_model.specs.Schema.{Schema}
use Rattle.asn1_model.specs.Value.{Value}
use Rattle.asn1_model.specs.Rules.{Rules, canonical}
use Rattle.asn1_laws_across.specs.Streams.{HasNoMessage}
use Rattle.asn1_laws_across.specs.Relayed.{Stop, HasEmptyMessage}
use Rattle.asn1_laws_across.specs.Relayed as stop
use Rattle.asn1_laws_versions.specs.Answers.{not_an_encoding, no_target}
use Rattle.asn1_laws_versions.specs.Routes.{older, Hop, no_hop, at_first, Writes, HasNoCause, HasCause}

-- Octets are the concatenated canonical encodings of these values, none of which is empty.
abbrev pub AreJoined : Rules → Schema → List Value → List ℕ → Type 0
AreJoined r s [] w = w ≡ []
AreJoined r s (v ∷ vs) w =
    (x : List ℕ) × (others : List ℕ) × (canonical r s v ≡ Some x) × (x ≢ []) × (x ++ others ≡ w)
    × AreJoined r s vs others

-- Why a relay stops.
pub data Halt : Type 0 where
  -- a cause for refusal holds at reading, or the message has more octets than allowed
  unread : Halt
  -- the value has no encoding in the target rules
  untranslated : Halt
  -- the encoding in the target rules has no octets
  emptied : Halt

-- To each message a relay of the older version is the first hop of a route, with this version.
abbrev pub older_to : Rules → Hop
older_to target = record { version = older; to = target }

module _ (source target : Rules) (old new : Schema) (limit : ℕ) where
  -- No cause for refusal holds for a value, its message is within the limit, and these octets, at least one, are
  -- written.
  abbrev pub IsRelayed : Value → List ℕ → List ℕ → Type 0
  IsRelayed v x t =
      HasNoCause old new (at_first source) (older_to target) v × (length x ≤ limit)
      × Writes old new no_hop (older_to target) v (Some t) × (t ≢ [])

  -- The relay stops at the message of a value.
  abbrev pub HaltsAt : Value → List ℕ → Halt → Type 0
  HaltsAt v x unread = HasCause old new (at_first source) (older_to target) v not_an_encoding ⊎ (limit < length x)
  HaltsAt v x untranslated = HasCause old new (at_first source) (older_to target) v no_target × (length x ≤ limit)
  HaltsAt v x emptied =
      HasNoCause old new (at_first source) (older_to target) v × (length x ≤ limit)
      × Writes old new no_hop (older_to target) v (Some [])

  -- A number of the concatenated messages of these values are relayed, and become what is written; the rest begins
  -- with the first that is not, if there is one, for this reason.
  abbrev pub RelaysOlder : List Value → List ℕ → ℕ → List ℕ → List ℕ → Option Halt → Type 0
  RelaysOlder [] w number out rest halt = (w ≡ []) × (number ≡ 0) × (out ≡ []) × (rest ≡ w) × (halt ≡ None)
  RelaysOlder (v ∷ vs) w number out rest halt =
      (x : List ℕ) × (others : List ℕ) × (canonical source new v ≡ Some x) × (x ≢ []) × (x ++ others ≡ w)
      × (((why : Halt) × HaltsAt v x why × (number ≡ 0) × (out ≡ []) × (rest ≡ w) × (halt ≡ Some why))
      ⊎ ((n : ℕ) × (t : List ℕ) × (further : List ℕ) × IsRelayed v x t × (number ≡ suc n) × (out ≡ t ++ further)
      × RelaysOlder vs others n further rest halt))

  -- How a relay that knows only the older version ends. Where it reads nothing, it waits for more octets within the
  -- limit, and stops above it; if the empty octet string is a message to it, it stops at that one.
  abbrev pub IsEnd : List ℕ → Option Halt → Option Stop → Type 0
  IsEnd rest None why = why ≡ None
  IsEnd rest (Some untranslated) why = why ≡ Some stop.no_target
  IsEnd rest (Some emptied) why = why ≡ Some stop.empty_message
  IsEnd rest (Some unread) why =
      HasNoMessage source old limit rest
      × (HasEmptyMessage source old → why ≡ Some stop.empty_message)
      × (¬ (HasEmptyMessage source old) → length rest ≤ limit → why ≡ None)
      × (¬ (HasEmptyMessage source old) → limit < length rest → why ≡ Some stop.none_within_limit)
