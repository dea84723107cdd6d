-- What a relay holds, and what its calls do.
use Rattle.std.specs.Prelude.{◌≡◌, ◌⊎◌, ℕ, min, ◌+◌, ◌≤◌, Bool, true, false, List, [], ◌++◌, length, if◌then◌else◌}
use Rattle.std.specs.Prelude.{Option, Some, None}
use Rattle.asn1_model.specs.Schema.{Schema}
use Rattle.asn1_laws_across.specs.Streams.{Message}
use Rattle.asn1_laws_across.specs.Relayed.{Stop, no_target, empty_message, none_within_limit, RelaysFront, Relays}
use Rattle.asn1_relay_core.specs.declared.codec.Codec.{Codec}
use Rattle.asn1_relay_core.specs.Coding.{rules_of}
use Rattle.asn1_relay_core.specs.declared.fault.RelayFault.{RelayFault}
use Rattle.asn1_relay_core.specs.declared.fault.RelayFaultKind.{RelayFaultKind}
use Rattle.asn1_relay_core.specs.declared.fault.RelayFaultKind.TheVariants as kind

-- What callers see of a relay.
pub record Relaying : Type 0 where
  -- the rules of the input and of the output
  pub from : Codec
  pub to : Codec
  -- the maximum length of a message, in octets
  pub limit : ℕ
  -- the unread octets
  pub unread : List ℕ
  -- the number of the message with which they begin, or of the one at which the relay stopped
  pub number : ℕ
  -- whether it has stopped
  pub failed : Bool

-- A relay that has read nothing.
abbrev pub starting : Codec → Codec → ℕ → Relaying
starting from to limit = record { from = from; to = to; limit = limit; unread = []; number = 0; failed = false }

-- Message numbers saturate at the maximum of 64 bits.
abbrev pub capped : ℕ → ℕ
capped n = min n 18446744073709551615

abbrev pub kind_of_stop : Stop → RelayFaultKind
kind_of_stop no_target = kind.NoTarget
kind_of_stop empty_message = kind.EmptyMessage
kind_of_stop none_within_limit = kind.NoneWithinLimit

-- The rules and the limit do not change. The relay then holds these octets, at the message with this number, and has
-- stopped or not.
abbrev pub onwards : Relaying → List ℕ → ℕ → Bool → Relaying
onwards r unread number failed = record {
  from = r.from;
  to = r.to;
  limit = r.limit;
  unread = unread;
  number = number;
  failed = failed;
}

-- The octets that a call of feed translates: the unread ones, and the piece.
abbrev pub RelaysAll : Schema → Relaying → List ℕ → ℕ → List ℕ → List ℕ → Option Stop → Type 0
RelaysAll s r piece n out rest why = Relays (rules_of r.from) (rules_of r.to) s r.limit (r.unread ++ piece) n out rest
    why

-- The relay had not stopped. All messages of the octets are relayed, and no more octets are unread than the limit for
-- one message.
pub record IsFed (s : Schema) (old new : Relaying) (piece before after : List ℕ) : Type 0 where
  pub had_not : old.failed ≡ false
  pub count : ℕ
  pub written : List ℕ
  pub relays : RelaysAll s old piece count written new.unread None
  pub grows : after ≡ before ++ written
  pub goes_on : new ≡ onwards old new.unread (capped (old.number + count)) false
  pub within : length new.unread ≤ old.limit

-- The relay stops for the reason of the error, at the message with its number, and everything before that is written.
pub record IsStopped (s : Schema) (old new : Relaying) (piece before after : List ℕ) (fault : RelayFault)
    (why : Stop) : Type 0 where
  pub count : ℕ
  pub written : List ℕ
  pub rest : List ℕ
  pub relays : RelaysAll s old piece count written rest (Some why)
  pub grows : after ≡ before ++ written
  pub is : fault ≡ record { number = capped (old.number + count); kind = kind_of_stop why }
  pub stops : new ≡ onwards old new.unread fault.number true

-- Memory ran out at the message with the number of the error, and everything before that is written.
pub record WantsMemory (s : Schema) (old new : Relaying) (piece before after : List ℕ) (fault : RelayFault) : Type 0
  where
    pub messages : List Message
    pub written : List ℕ
    pub rest : List ℕ
    pub relays : RelaysFront (rules_of old.from) (rules_of old.to) s old.limit messages written rest
        (old.unread ++ piece)
    pub grows : after ≡ before ++ written
    pub is : fault ≡ record { number = capped (old.number + length messages); kind = kind.Memory }
    pub stops : new ≡ onwards old new.unread fault.number true

-- A relay that has stopped reports so, and does nothing.
pub record HadFailed (old new : Relaying) (before after : List ℕ) (fault : RelayFault) : Type 0 where
  pub had : old.failed ≡ true
  pub is : fault ≡ record { number = old.number; kind = kind.AlreadyFailed }
  pub same : new ≡ old
  pub writes_nothing : after ≡ before

-- Each error of feed occurs only for its cause.
abbrev pub FaultOf : Schema → Relaying → Relaying → List ℕ → List ℕ → List ℕ → RelayFault → Type 0
FaultOf s old new piece before after fault =
    HadFailed old new before after fault
    ⊎ ((old.failed ≡ false) × (why : Stop) × IsStopped s old new piece before after fault why)
    ⊎ ((old.failed ≡ false) × WantsMemory s old new piece before after fault)

-- The error of an end with unread octets, or of a relay that has stopped.
abbrev pub end_fault : Relaying → RelayFault
end_fault r = record { number = r.number; kind = if r.failed then kind.AlreadyFailed else kind.NoForm }
