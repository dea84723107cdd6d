-- One attempt of a relay at its unread octets: it relays the first message, waits for more octets, or stops.
use Rattle.std.specs.Prelude.{◌≡◌, ◌≢◌, ◌⊎◌, ℕ, ◌+◌, ◌<◌, Bool, List, [], ◌++◌, length, Some, None, if◌then◌else◌}
use Rattle.asn1_model.specs.Schema.{Schema}
use Rattle.asn1_model.specs.Value.{Value}
use Rattle.asn1_model.specs.Rules.{Rules, canonical}
use Rattle.asn1_laws_across.specs.Streams.{Message, IsMessageWithin, HasNoMessage}
use Rattle.asn1_schema_errors.specs.declared.DecodeError.{DecodeError}
use Rattle.asn1_schema_errors.specs.declared.DecodeError.TheVariants as Decoding
use Rattle.asn1_laws_across.specs.Relayed.{Stop, HasEmptyMessage, StopsAt}
use Rattle.asn1_relay_core.specs.declared.fault.RelayFaultKind.{RelayFaultKind}
use Rattle.asn1_relay_core.specs.declared.fault.RelayFaultKind.TheVariants as kind
use Rattle.asn1_relay_core.specs.declared.front.Attempt.{Attempt}
use Rattle.asn1_relay_core.specs.declared.front.Attempt.TheVariants as front
use Rattle.asn1_relay_core.specs.MessageTypes.{IsWrittenAs}
use Rattle.asn1_relay_core.specs.Relaying.{kind_of_stop}

-- The octets begin with a message of this length, and its translation, which is not empty, was written.
pub record RelaysOne (source target : Rules) (s : Schema) (limit : ℕ) (w before after : List ℕ) (count : ℕ) : Type 0
  where
    pub message : Message
    pub is_message : IsMessageWithin source s limit message
    pub rest : List ℕ
    pub in_front : message.octets ++ rest ≡ w
    pub written : List ℕ
    pub translated : canonical target s message.value ≡ Some written
    pub is_some : written ≢ []
    pub counted : length message.octets ≡ count
    pub grows : after ≡ before ++ written

-- The canonical encoding of what is meant is written, and is not empty.
pub record AddsText (target : Rules) (schema : ℕ → Schema) (Means : Value → Type 0) (before after : List ℕ) : Type 0
  where
    pub text : List ℕ
    pub written : IsWrittenAs target schema Means (Some text)
    pub is_some : text ≢ []
    pub grows : after ≡ before ++ text

-- Nothing is written: memory ran out, or the canonical encoding does not exist, or it is empty.
pub record AddsNothing (target : Rules) (schema : ℕ → Schema) (Means : Value → Type 0) (before after : List ℕ)
    (k : RelayFaultKind) : Type 0 where
  pub same : after ≡ before
  pub why : (k ≡ kind.Memory) ⊎ ((k ≡ kind.NoTarget) × IsWrittenAs target schema Means None)
      ⊎ ((k ≡ kind.EmptyMessage) × IsWrittenAs target schema Means (Some []))

-- While more octets are appended, but fewer than `number` in total, the octets do not begin with a message.
abbrev pub Awaits : Rules → Schema → ℕ → List ℕ → ℕ → Type 0
Awaits source s limit w number = (more : List ℕ) → length w + length more < number
    → ¬ (HasEmptyMessage source s) × HasNoMessage source s limit (w ++ more)

-- The result for octets that do not begin with a message, and that need `number` octets in total before they may.
abbrev pub unread_front : DecodeError → ℕ → Bool → Attempt
unread_front Decoding.OutOfMemory number past = front.Stops kind.Memory
unread_front e number past = if past then front.Stops kind.NoneWithinLimit else front.Waits number

-- The result of an attempt: only the first variant writes anything, and each other variant occurs only for its cause.
abbrev pub Tries : Rules → Rules → Schema → ℕ → List ℕ → List ℕ → List ℕ → Attempt → Type 0
Tries source target s limit w before after (front.Relayed count) = RelaysOne source target s limit w before after count
Tries source target s limit w before after (front.Waits number) =
    (after ≡ before) × StopsAt source target s limit w None × Awaits source s limit w number
Tries source target s limit w before after (front.Stops k) = (after ≡ before)
    × ((k ≡ kind.Memory) ⊎ ((why : Stop) × (k ≡ kind_of_stop why) × StopsAt source target s limit w (Some why)))
