-- What a run from a reader to a writer does.
use Rattle.std.specs.Prelude.{◌≡◌, ◌≢◌, ◌⊎◌, ℕ, ◌+◌, ◌≤◌, false, List, [], ◌++◌, length, Option, Some, None}
use Rattle.std.specs.Io.KnownBytes.{Appends, Consumes, IsAtEnd}
use Rattle.asn1_model.specs.Schema.{Schema}
use Rattle.asn1_model.specs.Rules.{Rules}
use Rattle.asn1_laws_across.specs.Streams.{Message}
use Rattle.asn1_laws_across.specs.Relayed.{Stop, RelaysFront, Relays}
use Rattle.asn1_relay_core.specs.declared.fault.RelayFault.{RelayFault}
use Rattle.asn1_relay_core.specs.declared.fault.RelayFaultKind.{RelayFaultKind}
use Rattle.asn1_relay_core.specs.declared.fault.RelayFaultKind.TheVariants as kind
use Rattle.asn1_relay_core.specs.declared.running.RunFault.{RunFault}
use Rattle.asn1_relay_core.specs.declared.running.RunFault.TheVariants as run
use Rattle.asn1_relay_core.specs.Coding.{rules_of}
use Rattle.asn1_relay_core.specs.Ends.{BeginsToAppend}
use Rattle.asn1_relay_core.specs.Relaying.{Relaying, RelaysAll, capped, kind_of_stop, onwards}

-- The octets that a reader will still return and those that a writer has accepted, if they are known, and how many
-- calls of each have failed.
pub record Ends : Type 0 where
  pub coming : Option (List ℕ)
  pub taken : Option (List ℕ)
  pub reads_failed : ℕ
  pub writes_failed : ℕ

-- A reader and a writer with these octets, and with these numbers of failed calls.
abbrev pub ends : Option (List ℕ) → Option (List ℕ) → ℕ → ℕ → Ends
ends coming taken reads writes = record { coming = coming; taken = taken; reads_failed = reads; writes_failed = writes }

-- These octets were read, and those were written.
pub record Moves (old new : Ends) (got put : List ℕ) : Type 0 where
  pub reads : Consumes old.coming new.coming got
  pub writes : Appends old.taken new.taken put

-- This many calls of the reader failed, and this many of the writer.
pub record Fails (old new : Ends) (reads writes : ℕ) : Type 0 where
  pub of_reader : new.reads_failed ≡ old.reads_failed + reads
  pub of_writer : new.writes_failed ≡ old.writes_failed + writes

-- The error of a run whose relay stops.
abbrev pub run_fault_of : RelayFaultKind → RelayFault → RunFault
run_fault_of kind.Memory fault = run.Memory
run_fault_of k fault = run.Relay fault

-- How many octets are read at a time.
abbrev pub block : ℕ
block = 4096

-- A block is fed to a relay, and all its output is written.
pub record RelaysBlock (s : Schema) (old new : Relaying) (octets : List ℕ) (before after : Option (List ℕ)) : Type 0
  where
    pub count : ℕ
    pub put : List ℕ
    pub relays : RelaysAll s old octets count put new.unread None
    pub goes_on : new ≡ onwards old new.unread (capped (old.number + count)) false
    pub writes : Appends before after put

-- The relay stops at a message, and all output before it is written.
pub record StopsInBlock (s : Schema) (old : Relaying) (octets : List ℕ) (before after : Option (List ℕ))
    (fault : RelayFault) : Type 0 where
  pub count : ℕ
  pub put : List ℕ
  pub rest : List ℕ
  pub why : Stop
  pub relays : RelaysAll s old octets count put rest (Some why)
  pub is : fault ≡ record { number = capped (old.number + count); kind = kind_of_stop why }
  pub writes : Appends before after put

-- Memory ran out, and all output before that is written.
pub record WantsMemoryInBlock (s : Schema) (old : Relaying) (octets : List ℕ) (before after : Option (List ℕ)) : Type
    0 where
  pub messages : List Message
  pub put : List ℕ
  pub rest : List ℕ
  pub front : RelaysFront (rules_of old.from) (rules_of old.to) s old.limit messages put rest (old.unread ++ octets)
  pub writes : Appends before after put

-- A prefix of the output is written.
pub record WritesInPart (s : Schema) (old : Relaying) (octets : List ℕ) (before after : Option (List ℕ)) : Type 0 where
  pub messages : List Message
  pub whole : List ℕ
  pub rest : List ℕ
  pub front : RelaysFront (rules_of old.from) (rules_of old.to) s old.limit messages whole rest (old.unread ++ octets)
  pub writes : BeginsToAppend before after whole

-- Each error in a block occurs only for its cause; the writer counts its own.
abbrev pub BlockFaultOf : Schema → Relaying → List ℕ → Option (List ℕ) → Option (List ℕ) → ℕ → ℕ → RunFault → Type 0
BlockFaultOf s old octets before after failures now run.Read = ⊥
BlockFaultOf s old octets before after failures now run.Write = WritesInPart s old octets before after
    × (now ≡ failures + 1)
BlockFaultOf s old octets before after failures now (run.Relay fault) = StopsInBlock s old octets before after fault
    × (now ≡ failures)
BlockFaultOf s old octets before after failures now run.Memory = WantsMemoryInBlock s old octets before after
    × (now ≡ failures)

module _ (source target : Rules) (s : Schema) (limit : ℕ) (old new : Ends) where
  -- The input was read and relayed to its end; no call failed.
  pub record IsDone : Type 0 where
    pub got : List ℕ
    pub put : List ℕ
    pub number : ℕ
    pub moves : Moves old new got put
    pub ends : IsAtEnd new.coming
    pub relays : Relays source target s limit got number put [] None
    pub fails : Fails old new 0 0

  -- One call of the reader failed, and all that was read before is relayed as far as possible.
  pub record IsReadFailed : Type 0 where
    pub got : List ℕ
    pub put : List ℕ
    pub number : ℕ
    pub rest : List ℕ
    pub moves : Moves old new got put
    pub relays : Relays source target s limit got number put rest None
    pub fails : Fails old new 1 0

  -- The relay stops at a message of what was read, and all messages before it are written.
  pub record IsRelayStopped (fault : RelayFault) : Type 0 where
    pub got : List ℕ
    pub put : List ℕ
    pub number : ℕ
    pub rest : List ℕ
    pub why : Stop
    pub moves : Moves old new got put
    pub relays : Relays source target s limit got number put rest (Some why)
    pub is : fault ≡ record { number = capped number; kind = kind_of_stop why }
    pub fails : Fails old new 0 0

  -- The input was read to its end, and octets are left unread.
  pub record IsLeftUnread (fault : RelayFault) : Type 0 where
    pub got : List ℕ
    pub put : List ℕ
    pub number : ℕ
    pub rest : List ℕ
    pub moves : Moves old new got put
    pub ends : IsAtEnd new.coming
    pub relays : Relays source target s limit got number put rest None
    pub some_left : rest ≢ []
    pub is : fault ≡ record { number = capped number; kind = kind.NoForm }
    pub fails : Fails old new 0 0

  -- Memory ran out, and whole messages with which the input begins are written.
  pub record HasNoMemory : Type 0 where
    pub got : List ℕ
    pub put : List ℕ
    pub rest : List ℕ
    pub messages : List Message
    pub moves : Moves old new got put
    pub front : RelaysFront source target s limit messages put rest got
    pub fails : Fails old new 0 0

  -- One call of the writer failed. A prefix is written of the translation of the messages with which the input begins.
  -- It includes the whole translation of what was read before the last block.
  pub record IsWriteFailed : Type 0 where
    pub early : List ℕ
    pub last : List ℕ
    pub put : List ℕ
    pub rest : List ℕ
    pub messages : List Message
    pub whole : List ℕ
    pub unwritten : List ℕ
    pub moves : Moves old new (early ++ last) put
    pub front : RelaysFront source target s limit messages whole rest (early ++ last)
    pub begins : put ++ unwritten ≡ whole
    pub short : length last ≤ block
    pub number : ℕ
    pub out : List ℕ
    pub unread : List ℕ
    pub further : List ℕ
    pub relays : Relays source target s limit early number out unread None
    pub has_all : out ++ further ≡ put
    pub fails : Fails old new 0 1

  -- Each error occurs only for its cause.
  abbrev pub RunFaultOf : RunFault → Type 0
  RunFaultOf run.Read = IsReadFailed
  RunFaultOf run.Write = IsWriteFailed
  RunFaultOf (run.Relay fault) = IsRelayStopped fault ⊎ IsLeftUnread fault
  RunFaultOf run.Memory = HasNoMemory
