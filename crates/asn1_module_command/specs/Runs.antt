-- What a run over a type of a table does with its reader and its writer, whose octets are those that the one will still
-- return and the other holds, if they are known.
use Rattle.std.specs.Prelude.{◌≡◌, ◌⊎◌, ℕ, List, Bool, Option, Some, None, IsSome, false, true}
use Rattle.std.specs.Io.KnownBytes.{Keeps}
use Rattle.asn1_model.specs.Lawful.{is_of}
use Rattle.asn1_model.specs.Schema.{Schema}
use Rattle.asn1_model.specs.Value.{Value}
use Rattle.asn1_model.specs.Versions.{Extends}
use Rattle.asn1_notation_types.specs.declared.tables.Table.{Table}
use Rattle.asn1_relay_command.specs.Runs.{ComesAs, DoesOnceAs, DoesStreamAs, HasWritten, IsRunFaultAs, IsUntouched}
use Rattle.asn1_relay_command.specs.Runs.{IsTurnedBackAs, Known, StopsOnceAs}
use Rattle.asn1_relay_command.specs.declared.fault.Fault.{Fault}
use Rattle.asn1_relay_command.specs.declared.fault.Fault.TheVariants as fault
use Rattle.asn1_relay_core.specs.Coding.{IsWritten, rules_of}
use Rattle.asn1_relay_core.specs.Routing.{arrived}
use Rattle.asn1_relay_core.specs.declared.codec.Codec.{Codec}
use Rattle.asn1_relay_core.specs.declared.hop.Hop.{Hop}
use Rattle.asn1_schema_laws.specs.Tables.{IsValue}
use Rattle.asn1_table_nodes.specs.Meaning.{type_at}
use Rattle.asn1_module_command.specs.Checks.{HasChecked, StopsChecking}
use Rattle.asn1_module_command.specs.Digits.{IsReadIn, IsWrittenIn, StopsDigits, StopsFromReading, StopsOnOctets}
use Rattle.asn1_module_command.specs.Digits.{StopsWriting, TakesDigits, WritesDigits}
use Rattle.asn1_module_command.specs.declared.errors.CommandError.{CommandError}
use Rattle.asn1_module_command.specs.declared.errors.CommandError.TheVariants as error
use Rattle.asn1_module_command.specs.declared.errors.Stop.{Stop}
use Rattle.asn1_module_command.specs.declared.errors.Stop.TheVariants as stop
use Rattle.asn1_module_order.specs.Errors.{IsOfVersions}
use Rattle.asn1_module_order.specs.Orders.{Request, request_of}
use Rattle.asn1_module_order.specs.declared.order.Action.{Action}
use Rattle.asn1_module_order.specs.declared.order.Action.TheVariants as action
use Rattle.asn1_module_order.specs.declared.order.Extent.{Extent}
use Rattle.asn1_module_order.specs.declared.order.Extent.TheVariants as extent
use Rattle.asn1_module_order.specs.declared.order.Form.{Form}
use Rattle.asn1_module_order.specs.declared.order.Form.TheVariants as form
use Rattle.asn1_module_order.specs.declared.order.Order.{Order}
use Rattle.asn1_module_order.specs.declared.order.Route.{Route}
use Rattle.asn1_module_order.specs.declared.order.Translation.{Translation}

-- the type of a table
abbrev pub schema_in : Table → Schema
schema_in t = type_at t.types.nodes.items 128 t.place

-- the fault of an error, if it is one that the types of the program can have
abbrev pub fault_in : CommandError → Option Fault
fault_in (error.Fault f) = Some f
fault_in (error.Located f place) = Some f
fault_in e = None

-- the input was read and translated, and the result written
abbrev pub Does : Extent → Schema → Codec → Codec → Known → Known → Known → Known → Type 0
Does extent.Message s from to unread unread' held held' = DoesOnceAs s from to unread unread' held held'
Does (extent.Stream limit) s from to unread unread' held held' =
    DoesStreamAs s from to limit unread unread' held held'

-- a fault stops this
abbrev pub StopsByFault : Extent → Schema → Codec → Codec → Known → Known → Known → Known → Fault → Type 0
StopsByFault extent.Message s from to unread unread' held held' f =
    StopsOnceAs s from to unread unread' held held' f
StopsByFault (extent.Stream limit) s from to unread unread' held held' f =
    IsRunFaultAs s from to limit unread unread' held held' f

-- an error stops this, which names such a fault
pub record StopsBy (extent : Extent) (s : Schema) (from to : Codec) (unread unread' held held' : Known)
    (e : CommandError) : Type 0 where
  pub fault : Fault
  pub names : fault_in e ≡ Some fault
  pub stops : StopsByFault extent s from to unread unread' held held' fault

-- octets are the canonical encoding of a value of the type (X.680)
pub record IsEncoding (s : Schema) (to : Codec) (octets : List ℕ) : Type 0 where
  pub value : Value
  pub is_value : IsValue (λ _. s) value
  pub is_of_type : is_of s value ≡ true
  pub written : IsWritten (rules_of to) (λ _. s) value (Some octets)

-- such an encoding was written
abbrev pub WritesEncoding : Schema → Codec → Known → Known → Type 0
WritesEncoding s to held held' = HasWritten (IsEncoding s to) held held'

-- ---- translations

-- one message in JSON was read, and its encoding written; nothing is said of a stream
abbrev pub Encodes : Extent → Schema → Codec → Known → Known → Type 0
Encodes extent.Message s to held held' = WritesEncoding s to held held'
Encodes (extent.Stream limit) s to held held' = Unit {0}

-- the input was read and translated to the first form from the second, and the result written; nothing is said of JSON
-- that is written
abbrev pub DoesIn : Extent → Schema → Form → Form → Known → Known → Known → Known → Type 0
DoesIn x s form.Json from unread unread' held held' = Unit {0}
DoesIn x s (form.Rules to) (form.Rules from) unread unread' held held' = Does x s from to unread unread' held held'
DoesIn x s (form.Rules to) form.Json unread unread' held held' = Encodes x s to held held'

-- an error stops this; nothing is said where there is JSON
abbrev pub StopsIn : Extent → Schema → Form → Form → Known → Known → Known → Known → CommandError → Type 0
StopsIn x s form.Json from unread unread' held held' e = Unit {0}
StopsIn x s (form.Rules to) (form.Rules from) unread unread' held held' e =
    StopsBy x s from to unread unread' held held' e
StopsIn x s (form.Rules to) form.Json unread unread' held held' e = Unit {0}

-- the same, with the digits of octets written in their place
abbrev pub LeavesDigits : Extent → Schema → Form → Form → Known → Known → Known → Known → Type 0
LeavesDigits x s form.Json from unread unread' held held' = Unit {0}
LeavesDigits x s (form.Rules to) from unread unread' held held' =
    WritesDigits (DoesIn x s (form.Rules to) from) unread unread' held held'

-- the same, with the digits of octets read in their place, too
abbrev pub DoesInDigits : Extent → Schema → Form → Form → Known → Known → Known → Known → Type 0
DoesInDigits x s to form.Json unread unread' held held' = LeavesDigits x s to form.Json unread unread' held held'
DoesInDigits x s to (form.Rules from) unread unread' held held' =
    TakesDigits (LeavesDigits x s to (form.Rules from)) unread unread' held held'

-- with octets, or with their digits in their place
abbrev pub TranslatesIn : Bool → Extent → Schema → Form → Form → Known → Known → Known → Known → Type 0
TranslatesIn false x s to from unread unread' held held' = DoesIn x s to from unread unread' held held'
TranslatesIn true x s to from unread unread' held held' = DoesInDigits x s to from unread unread' held held'

-- what was requested is done
abbrev pub HasTranslated : Translation → Schema → Known → Known → Known → Known → Type 0
HasTranslated t s unread unread' held held' =
    TranslatesIn t.is_hexadecimal t.extent s t.to t.from unread unread' held held'

-- an error stops this, with the digits of octets written in their place
abbrev pub StopsLeaving : Extent → Schema → Form → Form → Known → Known → Known → Known → CommandError → Type 0
StopsLeaving x s form.Json from unread unread' held held' e = Unit {0}
StopsLeaving x s (form.Rules to) from unread unread' held held' e =
    StopsDigits (DoesIn x s (form.Rules to) from) (StopsIn x s (form.Rules to) from) unread unread' held held' e

-- the same, with the digits of octets read in their place, too
abbrev pub StopsInDigits : Extent → Schema → Form → Form → Known → Known → Known → Known → CommandError → Type 0
StopsInDigits x s to form.Json unread unread' held held' e = StopsLeaving x s to form.Json unread unread' held held' e
StopsInDigits x s to (form.Rules from) unread unread' held held' e =
    StopsFromReading true (StopsOnOctets (StopsLeaving x s to (form.Rules from))) unread unread' held held' e

-- with octets, or with their digits in their place
abbrev pub StopsTranslatingIn : Bool → Extent → Schema → Form → Form → Known → Known → Known → Known → CommandError
    → Type 0
StopsTranslatingIn false x s to from unread unread' held held' e = StopsIn x s to from unread unread' held held' e
StopsTranslatingIn true x s to from unread unread' held held' e = StopsInDigits x s to from unread unread' held held' e

-- an error stops what was requested
abbrev pub StopsTranslating : Translation → Schema → Known → Known → Known → Known → CommandError → Type 0
StopsTranslating t s unread unread' held held' e =
    StopsTranslatingIn t.is_hexadecimal t.extent s t.to t.from unread unread' held held' e

-- ---- routes

-- everything was read, as octets or as their digits, and sent from hop to hop, with two versions of a type, and what
-- arrived was written likewise
pub record PassesIn (in_digits : Bool) (old new : Schema) (from : Codec) (hops : List Hop)
    (unread unread' held held' : Known) : Type 0 where
  pub message : List ℕ
  pub read : IsReadIn in_digits unread unread' message
  pub octets : List ℕ
  pub arrives : ComesAs old new from hops message (arrived octets)
  pub wrote : IsWrittenIn in_digits held held' octets

-- the second type is a newer version of the first (X.680 52), and what was requested is done with these
pub record HasRouted (r : Route) (old new : Schema) (unread unread' held held' : Known) : Type 0 where
  pub newer : Extends old new
  pub done : PassesIn r.is_hexadecimal old new r.from r.hops.items unread unread' held held'

-- a message arrives, and an error stops the writing
pub record StopsOnArrival (in_digits : Bool) (old new : Schema) (from : Codec) (hops : List Hop) (message : List ℕ)
    (held held' : Known) (e : CommandError) : Type 0 where
  pub octets : List ℕ
  pub arrives : ComesAs old new from hops message (arrived octets)
  pub stops : StopsWriting in_digits held held' octets e

-- an error stops a message: at a hop, with nothing written, or when it has arrived
abbrev pub StopsOnWay : Bool → Schema → Schema → Codec → List Hop → List ℕ → Known → Known → CommandError → Type 0
StopsOnWay in_digits old new from hops message held held' (error.Fault (fault.AtHop i kind)) =
    IsTurnedBackAs old new from hops message (fault.AtHop i kind) × Keeps held held'
StopsOnWay in_digits old new from hops message held held' e =
    StopsOnArrival in_digits old new from hops message held held' e

-- an error stops this, in the reading or on the way, with octets or with their digits in their place
abbrev pub StopsPassing : Bool → Schema → Schema → Codec → List Hop → Known → Known → Known → Known → CommandError
    → Type 0
StopsPassing in_digits old new from hops unread unread' held held' e =
    StopsFromReading in_digits (StopsOnWay in_digits old new from hops) unread unread' held held' e

-- the second type is a newer version of the first, and an error stops what is done with these
pub record StopsRouting (r : Route) (old new : Schema) (unread unread' held held' : Known) (e : CommandError)
    : Type 0 where
  pub newer : Extends old new
  pub stops : StopsPassing r.is_hexadecimal old new r.from r.hops.items unread unread' held held' e

-- nothing was read and nothing written, since the second type does not extend the first, or memory ran out while they
-- were compared; or else an error stops what was requested
abbrev pub StopsSending : Route → Schema → Schema → Known → Known → Known → Known → Stop → Type 0
StopsSending r old new unread unread' held held' (stop.Module e) =
    IsOfVersions e × IsUntouched unread unread' held held'
StopsSending r old new unread unread' held held' (stop.Command e) = StopsRouting r old new unread unread' held held' e

-- ---- orders

-- this holds of the type of a table, all of whose types are lawful
pub record OfType (P : Schema → Type 0) : Type 0 where
  pub table : Table
  pub holds : P (schema_in table)

-- this holds of the types of two such tables
pub record OfTypes (P : Schema → Schema → Type 0) : Type 0 where
  pub older : Table
  pub newer : Table
  pub holds : P (schema_in older) (schema_in newer)

-- nothing was read and nothing written, or an error stops a route, with the types of two such tables
abbrev pub StopsOnRoute : Route → Known → Known → Known → Known → Stop → Type 0
StopsOnRoute r unread unread' held held' (stop.Module e) = IsUntouched unread unread' held held'
StopsOnRoute r unread unread' held held' (stop.Command e) =
    OfTypes (λ old new. StopsRouting r old new unread unread' held held' e)

-- what was requested of a type is done; nothing is said of a type that is printed
abbrev pub IsDone : Action → Known → Known → Known → Known → Type 0
IsDone (action.Translate t) unread unread' held held' = OfType (λ s. HasTranslated t s unread unread' held held')
IsDone (action.Check c) unread unread' held held' = OfType (λ s. HasChecked c s unread unread' held held')
IsDone (action.Route r) unread unread' held held' = OfTypes (λ old new. HasRouted r old new unread unread' held held')
IsDone action.Print unread unread' held held' = Unit {0}

-- an error stops this
abbrev pub IsStopped : Action → Known → Known → Known → Known → CommandError → Type 0
IsStopped (action.Translate t) unread unread' held held' e =
    OfType (λ s. StopsTranslating t s unread unread' held held' e)
IsStopped (action.Check c) unread unread' held held' e = OfType (λ s. StopsChecking c s unread unread' held held' e)
IsStopped (action.Route r) unread unread' held held' e =
    OfTypes (λ old new. StopsRouting r old new unread unread' held held' e)
IsStopped action.Print unread unread' held held' e = Unit {0}

-- status 0: what was requested of the type is done, for some table or tables; which ones is not said here
abbrev pub HasDone : Order → Known → Known → Known → Known → Type 0
HasDone o unread unread' held held' = IsSome o.type_name → IsDone o.action unread unread' held held'

-- nothing was read and nothing written, since there is no table, or one does not extend the other, or else an error
-- stops what was requested of the type
abbrev pub StopsAt : Order → Known → Known → Known → Known → Stop → Type 0
StopsAt o unread unread' held held' (stop.Module e) = IsUntouched unread unread' held held'
StopsAt o unread unread' held held' (stop.Command e) =
    IsSome o.type_name → IsStopped o.action unread unread' held held' e

-- status 1: one of these
pub record HasFailed (o : Order) (unread unread' held held' : Known) : Type 0 where
  pub reason : Stop
  pub stops : StopsAt o unread unread' held held' reason

-- ---- command lines

-- the given stream, or a file in its place, while the given one stays as it was
abbrev pub InPlace : {X : Type 0} → Option X → Known → Known → Known → Known → Type 0
InPlace None given given' here here' = (here ≡ given) × (here' ≡ given')
InPlace (Some name) given given' here here' = Keeps given given'

-- this holds of the given stream, or of a file in its place, whose octets may not be known
pub record Via {X : Type 0} (name : Option X) (P : Known → Known → Type 0) (given given' : Known) : Type 0 where
  pub here : Known
  pub here' : Known
  pub stream : InPlace name given given' here here'
  pub holds : P here here'

-- this holds of what was read and written, each by the given stream or by the file that was named
abbrev pub Through : Order → (Known → Known → Known → Known → Type 0) → Known → Known → Known → Known → Type 0
Through o P unread unread' held held' =
    Via o.input (λ left left'. Via o.output (P left left') held held') unread unread'

-- a command line requests something, of which this holds
pub record IsAsked (asked : Option Request) (P : Order → Type 0) : Type 0 where
  pub order : Order
  pub asks : asked ≡ Some (request_of order)
  pub holds : P order

-- status 0: what was requested is done
abbrev pub IsObeyed : Option Request → Known → Known → Known → Known → Type 0
IsObeyed asked unread unread' held held' = IsAsked asked (λ o. Through o (HasDone o) unread unread' held held')

-- status 1: nothing was read and nothing written, since memory ran out or a file could not be opened or made, or else
-- what was requested has failed
abbrev pub HasStopped : Option Request → Known → Known → Known → Known → Type 0
HasStopped asked unread unread' held held' =
    IsUntouched unread unread' held held' ⊎ IsAsked asked (λ o. Through o (HasFailed o) unread unread' held held')

-- status 2: the command line requests nothing
pub record HasRefused (asked : Option Request) (unread unread' held held' : Known) : Type 0 where
  pub bad : asked ≡ None
  pub untouched : IsUntouched unread unread' held held'
