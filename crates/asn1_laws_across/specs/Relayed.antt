-- What a relay writes for given octets, and what stops it.
use Rattle.std.specs.Prelude.{◌≡◌, ◌≢◌, ◌⊎◌, ℕ, ◌+◌, ◌<◌, ◌≤◌, List, [], ◌∷◌, ◌++◌, length, Option, Some, None}
use Rattle.asn1_model.specs.Value.{Value, depth}
use Rattle.asn1_model.specs.Schema.{Schema}
use Rattle.asn1_model.specs.Rules.{Rules, IsEncoding, canonical}
use Rattle.asn1_laws_across.specs.Streams.{Message, IsMessageWithin, HasNoMessage, most_levels}

-- Why a relay stops.
pub data Stop : Type 0 where
  -- the value of a message has no encoding in the target rules
  no_target : Stop
  -- a message has no octets, before or after its translation
  empty_message : Stop
  -- more octets are unread than a message may have, and they begin with no message
  none_within_limit : Stop

-- Octets are these messages and a rest. The value of each message has a non-empty encoding in the target rules, and
-- the concatenation of these encodings is what is written.
abbrev pub RelaysFront : Rules → Rules → Schema → ℕ → List Message → List ℕ → List ℕ → List ℕ → Type 0
RelaysFront source target s limit [] out rest w = (out ≡ []) × (rest ≡ w)
RelaysFront source target s limit (m ∷ ms) out rest w =
    IsMessageWithin source s limit m
    × (x : List ℕ) × (m.octets ++ x ≡ w)
    × (t : List ℕ) × (canonical target s m.value ≡ Some t) × (t ≢ [])
    × (others : List ℕ) × (t ++ others ≡ out)
    × RelaysFront source target s limit ms others rest x

-- The octets begin with a message, and this is the encoding of its value in the target rules.
abbrev pub BeginsWith : Rules → Rules → Schema → ℕ → Option (List ℕ) → List ℕ → Type 0
BeginsWith source target s limit t w =
    (m : Message) × (x : List ℕ) × (m.octets ++ x ≡ w) × IsMessageWithin source s limit m
    × (canonical target s m.value ≡ t)

-- The empty octet string is an encoding, so that any octets begin with an empty message, and with no other.
abbrev pub HasEmptyMessage : Rules → Schema → Type 0
HasEmptyMessage r s = (v : Value) × IsEncoding r s v [] × (depth v ≤ most_levels)

-- What stops a relay at these octets; nothing if none are left, or if more octets may still complete a message.
abbrev pub StopsAt : Rules → Rules → Schema → ℕ → List ℕ → Option Stop → Type 0
StopsAt source target s limit w None =
    HasNoMessage source s limit w × ((w ≡ []) ⊎ (¬ (HasEmptyMessage source s) × (length w ≤ limit)))
StopsAt source target s limit w (Some no_target) = BeginsWith source target s limit None w
StopsAt source target s limit w (Some empty_message) =
    BeginsWith source target s limit (Some []) w ⊎ ((w ≢ []) × HasEmptyMessage source s)
StopsAt source target s limit w (Some none_within_limit) =
    HasNoMessage source s limit w × ¬ (HasEmptyMessage source s) × (limit < length w)

-- What a relay does with octets: it relays a number of messages and writes their translation, and stops before the
-- rest, or waits for more octets. The number of messages is also the index of the message at which it stops, counted
-- from 0.
pub record Relays (source target : Rules) (s : Schema) (limit : ℕ) (w : List ℕ) (number : ℕ) (out rest : List ℕ)
    (why : Option Stop) : Type 0 where
  pub messages : List Message
  pub counted : length messages ≡ number
  pub front : RelaysFront source target s limit messages out rest w
  pub stops : StopsAt source target s limit rest why

-- The values of these messages have non-empty encodings in the target rules, and these are the concatenated encodings.
abbrev pub Translates : Rules → Schema → List Message → List ℕ → Type 0
Translates target s [] joined = joined ≡ []
Translates target s (m ∷ ms) joined =
    (t : List ℕ) × (canonical target s m.value ≡ Some t) × (t ≢ [])
    × (others : List ℕ) × (t ++ others ≡ joined)
    × Translates target s ms others

-- No messages follow those relayed, and what is unread is the rest after them all; or the value of the next one has no
-- encoding in the target rules, or an empty one, and the relay stops there for that reason.
abbrev pub EndsBefore : Rules → Schema → List Message → List ℕ → List ℕ → Option Stop → Type 0
EndsBefore target s [] rest unread why = unread ≡ rest
EndsBefore target s (m ∷ ms) rest unread why =
    ((canonical target s m.value ≡ None) × (why ≡ Some no_target))
    ⊎ ((canonical target s m.value ≡ Some []) × (why ≡ Some empty_message))

-- What calls do that pass pieces of octets in turn, after octets that are unread: each goes on with what the one
-- before left unread, and after a stop none writes anything.
abbrev pub RelaysPieces : Rules → Rules → Schema → ℕ → List ℕ → List (List ℕ) → ℕ → List ℕ → List ℕ → Option Stop
    → Type 0
RelaysPieces source target s limit unread [] number out rest why =
    (number ≡ 0) × (out ≡ []) × (rest ≡ unread) × (why ≡ None)
RelaysPieces source target s limit unread (p ∷ ps) number out rest why =
    (Relays source target s limit (unread ++ p) number out rest why × (why ≢ None))
    ⊎ ((n : ℕ) × (o : List ℕ) × (r : List ℕ) × Relays source target s limit (unread ++ p) n o r None
    × (k : ℕ) × (q : List ℕ) × RelaysPieces source target s limit r ps k q rest why × (n + k ≡ number) × (o ++ q ≡ out))
