-- Routes: messages that pass from hop to hop, where each hop knows the older or the newer version of their type.
use Rattle.std.specs.Prelude.{◌≡◌, ◌≢◌, ◌⊎◌, ℕ, zero, suc, ◌≤◌, ◌<◌, true, List, [], ◌∷◌, Option, Some, None}
use Rattle.std.specs.Prelude.{option_and_then}
use Rattle.asn1_model.specs.Schema.{Schema}
use Rattle.asn1_model.specs.Value.{Value, depth}
use Rattle.asn1_model.specs.Normal.{normal}
use Rattle.asn1_model.specs.Rules.{Rules, canonical}
use Rattle.asn1_model.specs.Lawful.{is_of}
use Rattle.asn1_model.specs.Versions.{drop, grow, IsClash}
use Rattle.asn1_laws_versions.specs.ExactLaws.{is_strict}
use Rattle.asn1_laws_versions.specs.Answers.{Answer, answered, not_an_encoding, no_target, IsAnswer}

-- ---- hops

-- The version of its type that a hop knows.
pub data Version : Type 0 where
  older : Version
  newer : Version

-- A hop: its version, and the rules in which it writes. It reads by the rules in which the hop before it wrote.
pub record Hop : Type 0 where
  pub version : Version
  pub to : Rules

-- The type of a version.
abbrev pub schema_of : Schema → Schema → Version → Schema
schema_of old new older = old
schema_of old new newer = new

-- ---- what hops do with any octets

-- An answer that passes no octets on.
abbrev pub IsRefusal : Answer → Type 0
IsRefusal (answered x) = ⊥
IsRefusal a = Unit {0}

module _ (old new : Schema) where
  -- The answer of a hop to octets that it reads by these rules, as one message of the type of its version.
  abbrev pub HopAnswers : Rules → Hop → List ℕ → Answer → Type 0
  HopAnswers from h w a = IsAnswer from h.to (schema_of old new h.version) w a

  -- Each hop answers, the next one reads its answer, and this is the answer of the last one. Without hops, the octets
  -- are unchanged.
  abbrev pub Arrives : Rules → List Hop → List ℕ → List ℕ → Type 0
  Arrives from [] w out = w ≡ out
  Arrives from (h ∷ hops) w out = (x : List ℕ) × HopAnswers from h w (answered x) × Arrives h.to hops x out

  -- The hops before the one at this index answer, and it refuses what it reads. Indices are counted from 0.
  abbrev pub RefusesAt : Rules → List Hop → List ℕ → ℕ → Answer → Type 0
  RefusesAt from [] w i a = ⊥
  RefusesAt from (h ∷ hops) w zero a = IsRefusal a × HopAnswers from h w a
  RefusesAt from (h ∷ hops) w (suc i) a =
      (x : List ℕ) × HopAnswers from h w (answered x) × RefusesAt h.to hops x i a

-- ---- where a message is

-- Which hops it has passed: none, only ones of the newer version, or at least one of the older version.
pub data Passed : Type 0 where
  no_hop : Passed
  newer_alone : Passed
  an_older : Passed

-- The hops that it has passed, and the rules in which it was last written.
pub record Stage : Type 0 where
  pub passed : Passed
  pub from : Rules

-- Before the first hop.
abbrev pub at_first : Rules → Stage
at_first from = record { passed = no_hop; from = from }

-- After one more hop.
abbrev pub and_one : Passed → Version → Passed
and_one an_older version = an_older
and_one p older = an_older
and_one p newer = newer_alone

-- After a hop.
abbrev pub behind : Stage → Hop → Stage
behind p h = record { passed = and_one p.passed h.version; from = h.to }

-- The first hop of the older version.
abbrev pub IsFirstOlder : Stage → Hop → Type 0
IsFirstOlder p h = (h.version ≡ older) × (p.passed ≢ an_older)

-- A hop of the newer version after one of the older.
abbrev pub IsNewerAgain : Stage → Hop → Type 0
IsNewerAgain p h = (h.version ≡ newer) × (p.passed ≡ an_older)

-- ---- what hops do with a value of the newer version

-- Why a hop refuses.
pub data Cause : Type 0 where
  -- the older version lacks an alternative or an item that is not inside what it leaves out
  unknown : Cause
  -- what is read has more than 128 nested levels
  too_deep : Cause
  -- the loss leaves a part at its default, or a group empty, which strict rules do not read
  clash : Cause
  -- a part that the newer version requires is absent
  missing : Cause
  -- the value that is written has no canonical encoding in the target rules
  unwritable : Cause

-- The answer of a hop if a cause for refusal holds: what it reads is not a message, or there is no encoding in its
-- rules.
abbrev pub answer_to : Cause → Answer
answer_to unwritable = no_target
answer_to c = not_an_encoding

module _ (old new : Schema) where
  -- The value that a hop writes: the value itself while no hop was of the older version; at a hop of the older
  -- version, the value without what that lacks; and at a hop of the newer version after one of the older, this carried
  -- over again.
  abbrev pub value_written : Passed → Version → Value → Option Value
  value_written p older v = drop old new v
  value_written an_older newer v = option_and_then (grow old new) (drop old new v)
  value_written p newer v = Some v

  -- It is that value, and its canonical encoding in the rules of the hop is these octets, or does not exist.
  abbrev pub Writes : Passed → Hop → Value → Option (List ℕ) → Type 0
  Writes p h v t =
      (x : Value) × (value_written p h.version v ≡ Some x) × (canonical h.to (schema_of old new h.version) x ≡ t)

  -- What a version reads of the canonical encoding has more than 128 nested levels.
  abbrev pub NestsTooDeep : Version → Value → Type 0
  NestsTooDeep older v = (u : Value) × (drop old new v ≡ Some u) × (128 < depth u)
  NestsTooDeep newer v = 128 < depth (normal new v)

  -- What the older version sees of the value cannot be carried over again.
  abbrev pub Lacks : Value → Type 0
  Lacks v = (u : Value) × (drop old new v ≡ Some u) × (grow old new u ≡ None)

  -- A cause for refusal holds at a hop.
  abbrev pub Holds : Stage → Hop → Value → Cause → Type 0
  Holds p h v unknown = IsFirstOlder p h × (drop old new v ≡ None)
  Holds p h v too_deep = (p.passed ≡ no_hop) × NestsTooDeep h.version v
  Holds p h v clash = IsFirstOlder p h × (is_strict p.from ≡ true) × IsClash old new v
  Holds p h v missing = IsNewerAgain p h × Lacks v
  Holds p h v unwritable = Writes p.passed h v None

  -- No cause for refusal holds at a hop.
  abbrev pub HasNoCause : Stage → Hop → Value → Type 0
  HasNoCause p h v = (c : Cause) → Holds p h v c → ⊥

  -- A cause for refusal holds at a hop, and this is its answer. Causes at reading come first.
  abbrev pub HasCause : Stage → Hop → Value → Answer → Type 0
  HasCause p h v a =
      (c : Cause) × Holds p h v c × (answer_to c ≡ a)
      × (a ≡ no_target → (d : Cause) → answer_to d ≡ not_an_encoding → Holds p h v d → ⊥)

  -- No cause for refusal holds at any hop.
  abbrev pub GoesThrough : Stage → List Hop → Value → Type 0
  GoesThrough p [] v = Unit {0}
  GoesThrough p (h ∷ hops) v = HasNoCause p h v × GoesThrough (behind p h) hops v

  -- The hop at this index is the first where a cause for refusal holds, and this is its answer.
  abbrev pub FailsAt : Stage → List Hop → Value → ℕ → Answer → Type 0
  FailsAt p [] v i a = ⊥
  FailsAt p (h ∷ hops) v zero a = HasCause p h v a
  FailsAt p (h ∷ hops) v (suc i) a = HasNoCause p h v × FailsAt (behind p h) hops v i a

  -- The canonical encoding, in the rules of the last hop, of the value that it writes.
  abbrev pub IsLastWritten : Stage → List Hop → Value → List ℕ → Type 0
  IsLastWritten p [] v out = ⊥
  IsLastWritten p (h ∷ []) v out = Writes p.passed h v (Some out)
  IsLastWritten p (h ∷ g ∷ hops) v out = IsLastWritten (behind p h) (g ∷ hops) v out

  -- ---- what is written between hops

  -- The canonical encoding of the value that the older version sees, or of that carried over again.
  abbrev pub IsSeen : Rules → Value → List ℕ → Type 0
  IsSeen from u w =
      (canonical from old u ≡ Some w) ⊎ ((g : Value) × (grow old new u ≡ Some g) × (canonical from new g ≡ Some w))

  -- What is written before a hop if all hops before it have answered.
  abbrev pub StandsWritten : Passed → Rules → Value → List ℕ → Type 0
  StandsWritten no_hop from v w = canonical from new v ≡ Some w
  StandsWritten newer_alone from v w = (canonical from new v ≡ Some w) × (depth (normal new v) ≤ 128)
  StandsWritten an_older from v w =
      (u : Value) × (drop old new v ≡ Some u) × (is_of old u ≡ true) × (depth u ≤ 128) × IsSeen from u w
