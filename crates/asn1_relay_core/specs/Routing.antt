-- What becomes of a message on a route.
use Rattle.std.specs.Prelude.{◌≡◌, ◌⊎◌, ◌≤◌, ℕ, zero, suc, List, [], ◌∷◌, map}
use Rattle.std.specs.Prelude.{Option, Some, None, option_map, Result, Ok, Err, Vec}
use Rattle.asn1_model.specs.Schema.{Schema}
use Rattle.asn1_model.specs.Rules.{Rules, canonical}
use Rattle.asn1_model.specs.Value.{Value}
use Rattle.asn1_schema_errors.specs.declared.DecodeError.TheVariants as Decoding
use Rattle.asn1_schema_errors.specs.declared.EncodeError.TheVariants as Encoding
use Rattle.asn1_laws_versions.specs.Answers.{Answer, answered, not_an_encoding, surplus, no_target}
use Rattle.asn1_laws_versions.specs.Routes as Model
use Rattle.asn1_laws_versions.specs.Routes.{HopAnswers, Arrives, RefusesAt}
use Rattle.asn1_laws_versions.specs.Routes.{at_first, GoesThrough, FailsAt, IsLastWritten}
use Rattle.asn1_relay_core.specs.declared.codec.Codec.{Codec}
use Rattle.asn1_relay_core.specs.declared.translation.RecodeFault.{RecodeFault}
use Rattle.asn1_relay_core.specs.declared.translation.RecodeFault.TheVariants as recoding
use Rattle.asn1_relay_core.specs.Coding.{rules_of}
use Rattle.asn1_relay_core.specs.declared.route_fault.RouteFault.{RouteFault}
use Rattle.asn1_relay_core.specs.declared.route_fault.RouteFaultKind.{RouteFaultKind}
use Rattle.asn1_relay_core.specs.declared.route_fault.RouteFaultKind.TheVariants.{Read, Surplus, NoTarget, Memory}
use Rattle.asn1_relay_core.specs.declared.hop.Hop.{Hop}
use Rattle.asn1_relay_core.specs.declared.hop.Version.{Version}
use Rattle.asn1_relay_core.specs.declared.hop.Version.TheVariants.{Old, New}

-- ---- hops as the model has them

abbrev pub version_of : Version → Model.Version
version_of Old = Model.older
version_of New = Model.newer

abbrev pub hop_of : Hop → Model.Hop
hop_of h = record { version = version_of h.version; to = rules_of h.to }

abbrev pub hops_of : List Hop → List Model.Hop
hops_of hops = map hop_of hops

-- ---- outcomes

-- The outcome for a message.
pub data Outcome : Type 0 where
  -- the last hop returns these octets
  arrived : List ℕ → Outcome
  -- the hop with this index, counted from 0, is the first that rejects it, for this reason
  refused : ℕ → Answer → Outcome

-- The outcome for octets on a route, whatever they are: the chain of the results of its hops.
abbrev pub IsOutcome : Schema → Schema → Rules → List Model.Hop → List ℕ → Outcome → Type 0
IsOutcome old new from hops w (arrived out) = Arrives old new from hops w out
IsOutcome old new from hops w (refused i a) = RefusesAt old new from hops w i a

-- There is a hop with this index, and all hops before it succeed.
abbrev pub Reaches : Schema → Schema → Rules → List Model.Hop → List ℕ → ℕ → Type 0
Reaches old new from [] w i = ⊥
Reaches old new from (h ∷ hops) w zero = Unit {0}
Reaches old new from (h ∷ hops) w (suc i) =
    (x : List ℕ) × HopAnswers old new from h w (answered x) × Reaches old new h.to hops x i

-- ---- the same in the terms of the program: of two types, at the 128 levels that a hop reads

-- What a hop returns for octets.
abbrev pub Answers : (ℕ → Schema) → (ℕ → Schema) → Codec → Hop → List ℕ → Answer → Type 0
Answers old new from hop w a = HopAnswers (old 128) (new 128) (rules_of from) (hop_of hop) w a

-- The outcome for octets.
abbrev pub Comes : (ℕ → Schema) → (ℕ → Schema) → Codec → List Hop → List ℕ → Outcome → Type 0
Comes old new from hops w o = IsOutcome (old 128) (new 128) (rules_of from) (hops_of hops) w o

-- There is a hop with this index, and all hops before it succeed.
abbrev pub IsReached : (ℕ → Schema) → (ℕ → Schema) → Codec → List Hop → List ℕ → ℕ → Type 0
IsReached old new from hops w i = Reaches (old 128) (new 128) (rules_of from) (hops_of hops) w i

-- ---- what was returned, unless memory ran out

-- Why a hop rejects a message.
abbrev pub answer_of_kind : RouteFaultKind → Option Answer
answer_of_kind (Read e) = Some not_an_encoding
answer_of_kind Surplus = Some surplus
answer_of_kind (NoTarget e) = Some no_target
answer_of_kind Memory = None

-- What one hop returns.
abbrev pub answer_of_hop : {Z : Type 0} → Result (Vec ℕ Z) RouteFault → Option Answer
answer_of_hop (Ok octets) = Some (answered octets.items)
answer_of_hop (Err fault) = answer_of_kind fault.kind

-- The outcome for a message.
abbrev pub outcome_of : {Z : Type 0} → Result (Vec ℕ Z) RouteFault → Option Outcome
outcome_of (Ok octets) = Some (arrived octets.items)
outcome_of (Err fault) = option_map (λ a. refused fault.hop a) (answer_of_kind fault.kind)

-- This became of it, or memory ran out.
abbrev pub IsOrLacksMemory : Option Outcome → Outcome → Type 0
IsOrLacksMemory came o = (came ≡ None) ⊎ (came ≡ Some o)

-- Out of memory is a kind of its own, and is nested in no other.
abbrev pub NamesMemoryAlone : RouteFaultKind → Type 0
NamesMemoryAlone (Read Decoding.OutOfMemory) = ⊥
NamesMemoryAlone (NoTarget Encoding.OutOfMemory) = ⊥
NamesMemoryAlone k = Unit {0}

-- Each hop starts afresh with each message: no kind nests an error of an earlier call.
abbrev pub NamesNoEarlierRefusal : RouteFaultKind → Type 0
NamesNoEarlierRefusal (Read Decoding.AlreadyFailed) = ⊥
NamesNoEarlierRefusal (NoTarget Encoding.AlreadyFailed) = ⊥
NamesNoEarlierRefusal k = Unit {0}

-- No kind nests an error of a misplaced call.
abbrev pub NamesNoMisplacedCall : RouteFaultKind → Type 0
NamesNoMisplacedCall (NoTarget Encoding.CallOutOfPlace) = ⊥
NamesNoMisplacedCall k = Unit {0}

-- No kind nests an error of a length that does not fit the platform.
abbrev pub NamesNoPlatformSize : RouteFaultKind → Type 0
NamesNoPlatformSize (NoTarget Encoding.LengthExceedsPlatformSize) = ⊥
NamesNoPlatformSize k = Unit {0}

-- The kind of error of a hop whose translation failed.
abbrev pub kind_of_fault : RecodeFault → RouteFaultKind
kind_of_fault (recoding.NotAnEncoding e) = Read e
kind_of_fault recoding.Surplus = Surplus
kind_of_fault (recoding.NoTarget e) = NoTarget e
kind_of_fault recoding.Memory = Memory

-- ---- what becomes of a canonical encoding

-- The octets are the canonical encoding of a value of a type, unfolded to `n` levels, those that a hop reads or more.
abbrev pub IsCanonicalOf : Codec → (ℕ → Schema) → ℕ → Value → List ℕ → Type 0
IsCanonicalOf from schema n v w = (128 ≤ n) × (canonical (rules_of from) (schema n) v ≡ Some w)

-- What becomes of the canonical encoding of a value of the newer version, by the value alone. If no cause for an error
-- holds at any hop, it arrives as the canonical encoding, in the rules of the last hop, of the value that this hop
-- writes. Otherwise the first hop at which a cause holds rejects it for that cause.
abbrev pub IsTold : Schema → Schema → Rules → List Model.Hop → Value → Outcome → Type 0
IsTold old new from hops v (arrived out) =
    GoesThrough old new (at_first from) hops v × IsLastWritten old new (at_first from) hops v out
IsTold old new from hops v (refused i a) = FailsAt old new (at_first from) hops v i a

-- The same for the types of the program, unfolded to `n` levels.
abbrev pub IsToldBy : (ℕ → Schema) → (ℕ → Schema) → Codec → List Hop → ℕ → Value → Outcome → Type 0
IsToldBy old new from hops n v o = IsTold (old n) (new n) (rules_of from) (hops_of hops) v o
