-- Laws of routes.
use Rattle.std.specs.Prelude.{◌≡◌, ◌≢◌, ◌⊎◌, ℕ, ◌≤◌, IsTrue, List, [], Option, Some, option_map}
use Rattle.asn1_model.specs.Value.{Value, depth}
use Rattle.asn1_model.specs.Schema.{Schema}
use Rattle.asn1_model.specs.Lawful.{IsLawful}
use Rattle.asn1_model.specs.Normal.{normal}
use Rattle.asn1_model.specs.Rules.{Rules, canonical}
use Rattle.asn1_model.specs.Lawful.{is_of}
use Rattle.asn1_model.specs.Versions.{Extends, drop, grow}
use Rattle.asn1_laws_versions.specs.Answers.{Answer, answered, IsAnswer}
use Rattle.asn1_laws_versions.specs.Routes.{Hop, HopAnswers, Arrives, RefusesAt, Stage, at_first, and_one, Writes}
use Rattle.asn1_laws_versions.specs.Routes.{HasNoCause, HasCause, GoesThrough, FailsAt, IsLastWritten, StandsWritten}
use Rattle.asn1_laws_versions.specs.Relays.{AreJoined, Halt, RelaysOlder, IsEnd}
use Rattle.asn1_laws_across.specs.Relayed.{Stop, Relays}

-- ---- versions

-- A value of the older version can be carried over to the newer one exactly if its normal form can, and then both
-- results have the same normal form.
abbrev pub GrowingIsOfNormalForms : Type 0
GrowingIsOfNormalForms =
    (s t : Schema) (u : Value) → Extends s t → IsTrue (is_of s u)
    → grow s t (normal s u) ≡ option_map (λ v. normal t v) (grow s t u)

-- A value reduced to what the older version knows has at most as many nested levels as its normal form.
abbrev pub DroppingNestsNoDeeper : Type 0
DroppingNestsNoDeeper = (s t : Schema) (v u : Value) → drop s t v ≡ Some u → depth u ≤ depth (normal t v)

-- ---- answers

-- At most one answer to given octets is right, for any well-formed type and any rules.
abbrev pub OneAnswerIsRight : Type 0
OneAnswerIsRight =
    (source target : Rules) (s : Schema) (w : List ℕ) (x y : Answer)
    → IsLawful s → IsAnswer source target s w x → IsAnswer source target s w y → x ≡ y

-- ---- hops, of any two versions of a well-formed type

-- What a hop passes on: the canonical encoding of the value that it writes, which the next hop then reads.
abbrev pub HandsOn : Schema → Schema → Stage → Hop → Value → List ℕ → Type 0
HandsOn old new p h v w =
    (x : List ℕ) × HopAnswers old new p.from h w (answered x) × Writes old new p.passed h v (Some x)
    × StandsWritten old new (and_one p.passed h.version) h.to v x

-- A hop passes on what it writes of the octets it reads if no cause for refusal holds, and refuses them as the cause
-- says if one holds.
abbrev pub EachHopAnswers : Type 0
EachHopAnswers =
    (old new : Schema) (p : Stage) (h : Hop) (v : Value) (w : List ℕ)
    → IsLawful old → IsLawful new → Extends old new → StandsWritten old new p.passed p.from v w
    → (HasNoCause old new p h v → HandsOn old new p h v w)
    × ((a : Answer) → HasCause old new p h v a → HopAnswers old new p.from h w a)

-- ---- routes of any octets

-- A route has at most one result on given octets: they arrive as other octets, or one hop refuses them in one way.
abbrev pub DoesOneThing : Schema → Schema → Rules → List Hop → List ℕ → Type 0
DoesOneThing old new from hops w =
    ((x y : List ℕ) → Arrives old new from hops w x → Arrives old new from hops w y → x ≡ y)
    × ((i j : ℕ) (a b : Answer)
    → RefusesAt old new from hops w i a → RefusesAt old new from hops w j b → (i ≡ j) × (a ≡ b))
    × ((x : List ℕ) (i : ℕ) (a : Answer) → Arrives old new from hops w x → RefusesAt old new from hops w i a → ⊥)

abbrev pub RouteDoesOneThing : Type 0
RouteDoesOneThing =
    (old new : Schema) (from : Rules) (hops : List Hop) (w : List ℕ)
    → IsLawful old → IsLawful new → DoesOneThing old new from hops w

-- ---- routes of the canonical encoding of a value of the newer version, over at least one hop

-- A property of any such encoding.
abbrev pub OfCanonical : (Schema → Schema → Rules → List Hop → Value → List ℕ → Type 0) → Type 0
OfCanonical P =
    (old new : Schema) (from : Rules) (hops : List Hop) (v : Value) (w : List ℕ)
    → IsLawful old → IsLawful new → Extends old new → hops ≢ [] → canonical from new v ≡ Some w
    → P old new from hops v w

-- It arrives exactly if no cause for refusal holds at any hop, as the canonical encoding, in the rules of the last
-- hop, of the value that this hop writes.
abbrev pub ArrivesExactly : Schema → Schema → Rules → List Hop → Value → List ℕ → Type 0
ArrivesExactly old new from hops v w =
    (GoesThrough old new (at_first from) hops v → (out : List ℕ) × Arrives old new from hops w out)
    × ((out : List ℕ) → Arrives old new from hops w out → GoesThrough old new (at_first from) hops v)
    × ((out : List ℕ) → Arrives old new from hops w out → IsLastWritten old new (at_first from) hops v out)

abbrev pub RouteArrivesExactly : Type 0
RouteArrivesExactly = OfCanonical ArrivesExactly

-- It is refused at the first hop where a cause for refusal holds, and at no other: as not being a message if the cause
-- holds at reading, and else as a value without an encoding in the target rules.
abbrev pub RefusedExactly : Schema → Schema → Rules → List Hop → Value → List ℕ → Type 0
RefusedExactly old new from hops v w =
    (i : ℕ) (a : Answer)
    → (FailsAt old new (at_first from) hops v i a → RefusesAt old new from hops w i a)
    × (RefusesAt old new from hops w i a → FailsAt old new (at_first from) hops v i a)

abbrev pub RouteRefusesExactly : Type 0
RouteRefusesExactly = OfCanonical RefusedExactly

-- It arrives, or a hop refuses it.
abbrev pub Ends : Schema → Schema → Rules → List Hop → Value → List ℕ → Type 0
Ends old new from hops v w =
    ((out : List ℕ) × Arrives old new from hops w out) ⊎ ((i : ℕ) × (a : Answer) × RefusesAt old new from hops w i a)

abbrev pub RouteEnds : Type 0
RouteEnds = OfCanonical Ends

-- ---- relays of the older version, of concatenated canonical encodings of values of the newer one

-- The concatenated messages are relayed up to a first one at which the relay stops, or all of them.
abbrev pub OlderRelayGoes : Type 0
OlderRelayGoes =
    (source target : Rules) (old new : Schema) (limit : ℕ) (vs : List Value) (w : List ℕ)
    → IsLawful old → IsLawful new → Extends old new → AreJoined source new vs w
    → (number : ℕ) × (out : List ℕ) × (rest : List ℕ) × (halt : Option Halt)
    × RelaysOlder source target old new limit vs w number out rest halt

-- This is what a relay does that knows only the older version.
abbrev pub OlderRelayDoes : Type 0
OlderRelayDoes =
    (source target : Rules) (old new : Schema) (limit : ℕ) (vs : List Value) (w : List ℕ) (number n : ℕ)
    (out o rest r : List ℕ) (halt : Option Halt) (why : Option Stop)
    → IsLawful old → IsLawful new → Extends old new
    → RelaysOlder source target old new limit vs w number out rest halt → Relays source target old limit w n o r why
    → (n ≡ number) × (o ≡ out) × (r ≡ rest) × IsEnd source target old new limit rest halt why
