-- What a run of the command does with its reader, whose octets are those that it will still return, and its writer,
-- whose octets are those that it holds, if these are known.
use Rattle.std.specs.Prelude.{◌≡◌, ◌⊎◌, ℕ, List, Option, Some, None}
use Rattle.std.specs.Io.KnownBytes.{Appends, Consumes, IsAtEnd, Keeps}
use Rattle.asn1_model.specs.Schema.{Schema}
use Rattle.asn1_relay_core.specs.declared.codec.Codec.{Codec}
use Rattle.asn1_relay_core.specs.Coding.{rules_of}
use Rattle.asn1_relay_core.specs.Recoding.{Answer, IsAnswer, answered, not_an_encoding, surplus, no_target}
use Rattle.asn1_relay_core.specs.declared.translation.RecodeFault.{RecodeFault}
use Rattle.asn1_relay_core.specs.declared.translation.RecodeFault.TheVariants as recode_fault
use Rattle.asn1_relay_core.specs.Ends.{BeginsToAppend}
use Rattle.asn1_relay_core.specs.Running.{IsDone, RunFaultOf, ends}
use Rattle.asn1_relay_core.specs.declared.running.RunFault.{RunFault}
use Rattle.asn1_relay_core.specs.declared.running.RunFault.TheVariants as run_fault
use Rattle.asn1_relay_command.specs.Lines.{line_of}
use Rattle.asn1_relay_command.specs.Kinds.{newer_named, older_named, schema_named}
use Rattle.asn1_relay_command.specs.Orders.{Route, Task, once, stream, route}
use Rattle.asn1_relay_core.specs.Routing.{IsOutcome, Outcome, Reaches, arrived, refused, hops_of}
use Rattle.asn1_relay_core.specs.declared.route_fault.RouteFault.{RouteFault}
use Rattle.asn1_relay_core.specs.declared.route_fault.RouteFaultKind.{RouteFaultKind}
use Rattle.asn1_relay_core.specs.declared.route_fault.RouteFaultKind.TheVariants as route_fault
use Rattle.asn1_relay_core.specs.declared.hop.Hop.{Hop}
use Rattle.asn1_relay_command.specs.declared.fault.Fault.{Fault}
use Rattle.asn1_relay_command.specs.declared.fault.Fault.TheVariants as fault
use Rattle.asn1_relay_command.specs.declared.fault.HopFault.{HopFault}
use Rattle.asn1_relay_command.specs.declared.fault.HopFault.TheVariants as hop
use Rattle.asn1_relay_command.specs.declared.order.Translation.{Translation}

-- octets, if they are known
abbrev pub Known : Type 0
Known = Option (List ℕ)

-- ---- translating

-- what a message of a type becomes, from some rules to others
abbrev pub BecomesAs : Schema → Codec → Codec → List ℕ → Answer → Type 0
BecomesAs s from to message answer = IsAnswer (rules_of from) (rules_of to) s message answer

-- what it becomes, by what was requested
abbrev pub Becomes : Translation → List ℕ → Answer → Type 0
Becomes t message answer = BecomesAs (schema_named t.kind) t.from t.to message answer

abbrev pub fault_named : RecodeFault → Fault
fault_named (recode_fault.NotAnEncoding e) = fault.NotAnEncoding
fault_named recode_fault.Surplus = fault.SurplusOctets
fault_named (recode_fault.NoTarget e) = fault.NoTargetEncoding
fault_named recode_fault.Memory = fault.OutOfMemory

-- an error of translating a message of a type is what becomes of it, or memory ran out
abbrev pub IsRefusedAs : Schema → Codec → Codec → List ℕ → Fault → Type 0
IsRefusedAs s from to message fault.NotAnEncoding = BecomesAs s from to message not_an_encoding
IsRefusedAs s from to message fault.SurplusOctets = BecomesAs s from to message surplus
IsRefusedAs s from to message fault.NoTargetEncoding = BecomesAs s from to message no_target
IsRefusedAs s from to message fault.OutOfMemory = Unit {0}
IsRefusedAs s from to message _ = ⊥

-- the same for what was requested
abbrev pub IsRefusedBy : Translation → List ℕ → Fault → Type 0
IsRefusedBy t message f = IsRefusedAs (schema_named t.kind) t.from t.to message f

-- ---- one message

-- a reader returned all its octets
pub record IsAllRead (old new : Known) (message : List ℕ) : Type 0 where
  pub read : Consumes old new message
  pub ended : IsAtEnd new

-- everything was read, and became this
pub record IsAnswered (s : Schema) (from to : Codec) (old new : Known) (answer : Answer) : Type 0 where
  pub message : List ℕ
  pub read : IsAllRead old new message
  pub answers : BecomesAs s from to message answer

-- octets that are right were written
pub record HasWritten (IsRight : List ℕ → Type 0) (held held' : Known) : Type 0 where
  pub octets : List ℕ
  pub right : IsRight octets
  pub wrote : Appends held held' octets

-- a prefix of octets that are right was written, and then the writer failed
pub record IsCutOff (IsRight : List ℕ → Type 0) (held held' : Known) : Type 0 where
  pub octets : List ℕ
  pub right : IsRight octets
  pub began : BeginsToAppend held held' octets

-- everything was read, and this is its translation
abbrev pub IsTranslated : Schema → Codec → Codec → Known → Known → List ℕ → Type 0
IsTranslated s from to unread unread' octets = IsAnswered s from to unread unread' (answered octets)

-- everything was read and translated, as a message of a type, and the result was written
abbrev pub DoesOnceAs : Schema → Codec → Codec → Known → Known → Known → Known → Type 0
DoesOnceAs s from to unread unread' held held' = HasWritten (IsTranslated s from to unread unread') held held'

-- the same for what was requested
abbrev pub DoesOnce : Translation → Known → Known → Known → Known → Type 0
DoesOnce t unread unread' held held' = DoesOnceAs (schema_named t.kind) t.from t.to unread unread' held held'

-- an error before there is a result leaves the writer as it was
abbrev pub StopsOnceAs : Schema → Codec → Codec → Known → Known → Known → Known → Fault → Type 0
StopsOnceAs s from to unread unread' held held' fault.NotAnEncoding =
    IsAnswered s from to unread unread' not_an_encoding × Keeps held held'
StopsOnceAs s from to unread unread' held held' fault.SurplusOctets =
    IsAnswered s from to unread unread' surplus × Keeps held held'
StopsOnceAs s from to unread unread' held held' fault.NoTargetEncoding =
    IsAnswered s from to unread unread' no_target × Keeps held held'
StopsOnceAs s from to unread unread' held held' fault.OutOfMemory = Keeps held held'
StopsOnceAs s from to unread unread' held held' fault.ReadFailed = Keeps held held'
StopsOnceAs s from to unread unread' held held' fault.WriteFailed =
    IsCutOff (IsTranslated s from to unread unread') held held'
StopsOnceAs s from to unread unread' held held' _ = ⊥

-- the same for what was requested
abbrev pub StopsOnceBy : Translation → Known → Known → Known → Known → Fault → Type 0
StopsOnceBy t unread unread' held held' f =
    StopsOnceAs (schema_named t.kind) t.from t.to unread unread' held held' f

-- ---- a stream of messages

-- the input was read and relayed to its end, as messages of a type. Std's readers and writers count no failed calls:
-- those of the run are counted from 0, here and below
abbrev pub DoesStreamAs : Schema → Codec → Codec → ℕ → Known → Known → Known → Known → Type 0
DoesStreamAs s from to limit unread unread' held held' =
    IsDone (rules_of from) (rules_of to) s limit (ends unread held 0 0) (ends unread' held' 0 0)

-- the same for what was requested
abbrev pub DoesStream : Translation → ℕ → Known → Known → Known → Known → Type 0
DoesStream t limit unread unread' held held' =
    DoesStreamAs (schema_named t.kind) t.from t.to limit unread unread' held held'

-- an error stops it
pub record StopsStreamAs (s : Schema) (from to : Codec) (limit : ℕ) (unread unread' held held' : Known)
    (reason : RunFault) : Type 0 where
  pub reads : ℕ
  pub writes : ℕ
  pub stops : RunFaultOf (rules_of from) (rules_of to) s limit
      (ends unread held 0 0) (ends unread' held' reads writes) reason

-- the same for what was requested
abbrev pub StopsStreamBy : Translation → ℕ → Known → Known → Known → Known → RunFault → Type 0
StopsStreamBy t limit unread unread' held held' =
    StopsStreamAs (schema_named t.kind) t.from t.to limit unread unread' held held'

abbrev pub run_fault_named : RunFault → Fault
run_fault_named run_fault.Read = fault.ReadFailed
run_fault_named run_fault.Write = fault.WriteFailed
run_fault_named (run_fault.Relay at) = fault.AtMessage at
run_fault_named run_fault.Memory = fault.OutOfMemory

-- an error of the run stops it, under the command's name for it
pub record IsRunFaultAs (s : Schema) (from to : Codec) (limit : ℕ) (unread unread' held held' : Known) (f : Fault)
    : Type 0 where
  pub reason : RunFault
  pub is : f ≡ run_fault_named reason
  pub stops : StopsStreamAs s from to limit unread unread' held held' reason

-- the same for what was requested
abbrev pub IsRunFault : Translation → ℕ → Known → Known → Known → Known → Fault → Type 0
IsRunFault t limit unread unread' held held' f =
    IsRunFaultAs (schema_named t.kind) t.from t.to limit unread unread' held held' f

-- ---- one message along a route

-- what becomes of a message on a route
abbrev pub ComesAs : Schema → Schema → Codec → List Hop → List ℕ → Outcome → Type 0
ComesAs old new from hops message outcome = IsOutcome old new (rules_of from) (hops_of hops) message outcome

-- there is a hop with this index, and those before it succeed
abbrev pub ReachesAs : Schema → Schema → Codec → List Hop → List ℕ → ℕ → Type 0
ReachesAs old new from hops message i = Reaches old new (rules_of from) (hops_of hops) message i

abbrev pub hop_fault_named : RouteFaultKind → HopFault
hop_fault_named (route_fault.Read e) = hop.NotAnEncoding
hop_fault_named route_fault.Surplus = hop.SurplusOctets
hop_fault_named (route_fault.NoTarget e) = hop.NoTargetEncoding
hop_fault_named route_fault.Memory = hop.OutOfMemory

abbrev pub route_fault_named : RouteFault → Fault
route_fault_named f = fault.AtHop f.hop (hop_fault_named f.kind)

-- an error at a hop is what becomes of the message, or memory ran out at a hop that it reaches
abbrev pub IsTurnedBackAs : Schema → Schema → Codec → List Hop → List ℕ → Fault → Type 0
IsTurnedBackAs old new from hops message (fault.AtHop i hop.NotAnEncoding) =
    ComesAs old new from hops message (refused i not_an_encoding)
IsTurnedBackAs old new from hops message (fault.AtHop i hop.SurplusOctets) =
    ComesAs old new from hops message (refused i surplus)
IsTurnedBackAs old new from hops message (fault.AtHop i hop.NoTargetEncoding) =
    ComesAs old new from hops message (refused i no_target)
IsTurnedBackAs old new from hops message (fault.AtHop i hop.OutOfMemory) = ReachesAs old new from hops message i
IsTurnedBackAs old new from hops message _ = ⊥

-- the same for what was requested
abbrev pub ComesBy : Route → List ℕ → Outcome → Type 0
ComesBy r message outcome = ComesAs (older_named r.pair) (newer_named r.pair) r.from r.hops message outcome

abbrev pub IsTurnedBackBy : Route → List ℕ → Fault → Type 0
IsTurnedBackBy r message f = IsTurnedBackAs (older_named r.pair) (newer_named r.pair) r.from r.hops message f

-- everything was read, and becomes these octets
pub record IsSent (old new : Schema) (from : Codec) (hops : List Hop) (unread unread' : Known) (octets : List ℕ)
    : Type 0 where
  pub message : List ℕ
  pub read : IsAllRead unread unread' message
  pub arrives : ComesAs old new from hops message (arrived octets)

-- everything was read and sent, with two versions of a type, and what arrived was written
abbrev pub DoesRouteAs : Schema → Schema → Codec → List Hop → Known → Known → Known → Known → Type 0
DoesRouteAs old new from hops unread unread' held held' =
    HasWritten (IsSent old new from hops unread unread') held held'

-- the same for what was requested
abbrev pub DoesRoute : Route → Known → Known → Known → Known → Type 0
DoesRoute r unread unread' held held' =
    DoesRouteAs (older_named r.pair) (newer_named r.pair) r.from r.hops unread unread' held held'

-- everything was read, and a hop rejected it
pub record IsTurnedBack (old new : Schema) (from : Codec) (hops : List Hop) (unread unread' : Known) (f : Fault)
    : Type 0 where
  pub message : List ℕ
  pub read : IsAllRead unread unread' message
  pub refuses : IsTurnedBackAs old new from hops message f

-- an error before the message has arrived leaves the writer as it was
abbrev pub StopsRouteAs : Schema → Schema → Codec → List Hop → Known → Known → Known → Known → Fault → Type 0
StopsRouteAs old new from hops unread unread' held held' (fault.AtHop i kind) =
    IsTurnedBack old new from hops unread unread' (fault.AtHop i kind) × Keeps held held'
StopsRouteAs old new from hops unread unread' held held' fault.OutOfMemory = Keeps held held'
StopsRouteAs old new from hops unread unread' held held' fault.ReadFailed = Keeps held held'
StopsRouteAs old new from hops unread unread' held held' fault.WriteFailed =
    IsCutOff (IsSent old new from hops unread unread') held held'
StopsRouteAs old new from hops unread unread' held held' _ = ⊥

-- the same for what was requested
abbrev pub StopsRouteBy : Route → Known → Known → Known → Known → Fault → Type 0
StopsRouteBy r unread unread' held held' f =
    StopsRouteAs (older_named r.pair) (newer_named r.pair) r.from r.hops unread unread' held held' f

-- ---- what was requested

abbrev pub Does : Task → Known → Known → Known → Known → Type 0
Does (once t) unread unread' held held' = DoesOnce t unread unread' held held'
Does (stream t limit) unread unread' held held' = DoesStream t limit unread unread' held held'
Does (route r) unread unread' held held' = DoesRoute r unread unread' held held'

abbrev pub StopsBy : Task → Known → Known → Known → Known → Fault → Type 0
StopsBy (once t) unread unread' held held' f = StopsOnceBy t unread unread' held held' f
StopsBy (stream t limit) unread unread' held held' f = IsRunFault t limit unread unread' held held' f
StopsBy (route r) unread unread' held held' f = StopsRouteBy r unread unread' held held' f

-- ---- statuses

-- status 0: the command line requests something, and that is done
pub record HasDone (asked : Option Task) (unread unread' held held' : Known) : Type 0 where
  pub task : Task
  pub asks : asked ≡ Some task
  pub done : Does task unread unread' held held'

-- the command line requests something, an error stops it, and its line is written
pub record IsStopped (asked : Option Task) (unread unread' held held' said said' : Known) : Type 0 where
  pub task : Task
  pub asks : asked ≡ Some task
  pub reason : Fault
  pub stops : StopsBy task unread unread' held held' reason
  pub says : BeginsToAppend said said' (line_of reason)

-- nothing was read and nothing written
pub record IsUntouched (unread unread' held held' : Known) : Type 0 where
  pub unread_still : Keeps unread unread'
  pub held_still : Keeps held held'

-- memory ran out while the command line was read
pub record IsUnasked (unread unread' held held' said said' : Known) : Type 0 where
  pub untouched : IsUntouched unread unread' held held'
  pub says : BeginsToAppend said said' (line_of fault.OutOfMemory)

-- status 1: memory ran out while the command line was read, or an error stopped the run; its line was written to
-- `errors`
abbrev pub HasFailed : Option Task → Known → Known → Known → Known → Known → Known → Type 0
HasFailed asked unread unread' held held' said said' =
    IsUnasked unread unread' held held' said said'
    ⊎ IsStopped asked unread unread' held held' said said'

-- status 2: the command line requests nothing
pub record HasRefused (asked : Option Task) (unread unread' held held' : Known) : Type 0 where
  pub bad : asked ≡ None
  pub untouched : IsUntouched unread unread' held held'
