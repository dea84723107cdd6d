-- How the calls of a decoder of PER (X.691) change its state.
use Rattle.std.specs.Prelude.{◌≡◌, ◌<◌, ℕ, suc, Bool, true, List, ◌∷◌, length, drop, Option}
use Rattle.asn1_model.specs.Schema.{Counts, Size}
use Rattle.asn1_schema_errors.specs.declared.DecodeError.{DecodeError}
use Rattle.asn1_schema_errors.specs.declared.DecodeError.TheVariants.{OutOfMemory}
use Rattle.asn1_schema_laws.specs.Records.{Record, octets}
use Rattle.per_codec_reading.specs.Fronts.{freedoms, is_aligned, Leads}
use Rattle.per_codec_reading.specs.Runs.{Storage, EndsAtOctet, InOneRun}
use Rattle.per_codec_reading.specs.Headings.{told_in_front}
use Rattle.per_codec_laws.specs.Takes.{Position, Scope, State, Tally, members, Opens}
use Rattle.per_codec_held_laws.specs.Held.{Held, IsReady, state_of, innermost, stands_within}
use Rattle.per_codec_decoder.specs.Members.{HasMembers, NoMembers}
use Rattle.per_codec_decoder.specs.Preamble.{HasPreamble, NoPreamble}
use Rattle.per_codec_decoder.specs.declared.frames.Ending.{Ending}
use Rattle.per_codec_decoder.specs.declared.frames.Ending.TheVariants.{Nothing, Unknown, OpenType as Padded}

-- At most the position changes.
abbrev pub OnlyMoves : Held → Held → Type 0
OnlyMoves old new = new ≡ record {
  place = new.place;
  scopes = old.scopes;
  levels = old.levels;
  most = old.most;
  failed = old.failed;
  rules = old.rules;
  stands = old.stands;
}

-- The position, in bits, that a reader reached from the old one.
abbrev pub Moves : Held → ℕ → Held → Type 0
Moves old n new = (w : List Bool) (b : Position) → b.0 ≡ n → Leads w old.place b
    → new ≡ record {
      place = b;
      scopes = old.scopes;
      levels = old.levels;
      most = old.most;
      failed = old.failed;
      rules = old.rules;
      stands = old.stands;
    }

-- A scope is opened inside all others, and takes a level.
abbrev pub Enters : Held → Scope → Held → Type 0
Enters old s new = IsReady old × (old.levels ≡ suc new.levels)
    × (new ≡ record {
      place = new.place;
      scopes = s ∷ old.scopes;
      levels = new.levels;
      most = old.most;
      failed = old.failed;
      rules = old.rules;
      stands = old.stands;
    })

-- A SEQUENCE OF or SET OF is entered.
abbrev pub EntersMembers : Held → Size → Counts → Held → Type 0
EntersMembers old z h new = (due : ℕ) × (hs : Option Tally) × Enters old (members due hs) new
    × HasMembers (is_aligned old.rules) (freedoms old.rules) z h due hs old.place new.place

-- Why none is entered.
abbrev pub NotMembers : Held → Size → Counts → DecodeError → Type 0
NotMembers old z h x = IsReady old → 0 < old.levels
    → NoMembers (is_aligned old.rules) (freedoms old.rules) z h old.place x

-- A SEQUENCE, SET or group is entered.
abbrev pub EntersComponents : Held → Bool → ℕ → Held → Type 0
EntersComponents old e n new = (s : Scope) × Enters old s new
    × HasPreamble (freedoms old.rules) e n s old.place new.place

-- Why none is entered.
abbrev pub NotComponents : Held → Bool → ℕ → DecodeError → Type 0
NotComponents old e n x = IsReady old → 0 < old.levels → NoPreamble (freedoms old.rules) e n old.place x

-- Where bits are stored after the end of a scope that is left: after an open type, where those that follow it are.
abbrev pub stands_behind : Ending → List Storage → List Storage
stands_behind Nothing l = l
stands_behind (Unknown r) l = l
stands_behind (Padded p) l = p.storage ∷ drop 1 l

-- After the end of a scope that is left comes another position.
abbrev pub HasPassed : Ending → Held → Held → Type 0
HasPassed w old new = new ≡ record {
  place = new.place;
  scopes = old.scopes;
  levels = old.levels;
  most = old.most;
  failed = old.failed;
  rules = old.rules;
  stands = stands_behind w old.stands;
}

-- An open type is entered.
abbrev pub HasOpened : Held → Held → Type 0
HasOpened old new = Opens (is_aligned old.rules) (freedoms old.rules) old.place old.scopes (state_of new)
    × (new ≡ record {
      place = new.place;
      scopes = new.scopes;
      levels = old.levels;
      most = old.most;
      failed = old.failed;
      rules = old.rules;
      stands = stands_within true old.stands new.place new.scopes;
    })

-- Why no open type is entered: memory ran out, or the bits do not begin with octets after their length determinant.
abbrev pub NoOpening : Held → DecodeError → Type 0
NoOpening old x = ¬ (x ≡ OutOfMemory) → (k : List Scope) (b : State)
    → Opens (is_aligned old.rules) (freedoms old.rules) old.place k b → ⊥

-- The octets of a string are borrowed: they are in one run (X.691 11.9.3.5 to 11.9.3.7, 11.9.4.1) that ends, and so
-- begins, at an octet of the input. The bits begin with the extension bit, if there is one, which says whether their
-- number is in the root.
abbrev pub Lends : Held → Record → Held → Type 0
Lends old (octets z h os) new = InOneRun (told_in_front z old.place.1) (length os)
    × EndsAtOctet (innermost old.stands) new.place.0
Lends old r new = ⊥
