-- How many more bits a decoder of PER (X.691) needs at least after an error.
use Rattle.std.specs.Prelude.{◌≡◌, ◌⊎◌, ◌≤◌, ℕ, ◌+◌, Bool, List, [], Option, Some, None, length}
use Rattle.per_codec_longer_laws.specs.More.{place_with, scopes_with}
use Rattle.per_codec_longer_laws.specs.Few.{due, around}
use Rattle.asn1_schema_lacking_laws.specs.Carried.{CarriesRecords, CarriesValues, CarriesMembers}
use Rattle.per_codec_held_laws.specs.Held.{Held, Finds}

-- The state after bits were appended.
abbrev pub held_with : List Bool → Held → Held
held_with e h = record {
  place = place_with e h.scopes h.place;
  scopes = scopes_with e h.scopes;
  levels = h.levels;
  most = h.most;
  failed = h.failed;
  rules = h.rules;
  stands = h.stands;
}

-- How many bits the decoder counts as missing.
abbrev pub told : Option ℕ → ℕ
told None = 0
told (Some n) = n

-- How many bits a failed decoder lacks at least: one for each element that is still to come in the scopes that it kept,
-- except in open types, and those that it counts itself.
abbrev pub lacks : Held → ℕ
lacks failed = due failed.scopes + told failed.failed

-- No bits, or at most as many as are missing, less the number of elements that were still to come.
abbrev pub Fewer : ℕ → Held → Held → List Bool → Type 0
Fewer owed a failed e = ((a.levels ≤ a.most) × (length e + owed ≤ lacks failed)) ⊎ (e ≡ [])

abbrev pub FewHeld : ℕ → Held → Held → Held → Type 0
FewHeld owed a failed c = (e : List Bool) × (c ≡ held_with e a) × Fewer owed a failed e

abbrev pub TooFewHeld : Held → Held → Held → Type 0
TooFewHeld a failed c = FewHeld (due a.scopes) a failed c

-- As `TooFewHeld`, with a list as the innermost scope, whose own elements do not count.
abbrev pub TooFewMembersHeld : Held → Held → Held → Type 0
TooFewMembersHeld a failed c = FewHeld (due (around a.scopes)) a failed c

-- In the scopes that a failed decoder kept no more elements are still to come than before.
pub record OwesNoMore (old failed : Held) : Type 0 where
  pub owed : lacks failed ≤ due old.scopes

-- What is found is also found with a few bits appended, and missing elements lack the bits that the laws say.
abbrev pub FewFound : Type 0
FewFound =
    CarriesRecords Finds TooFewHeld × CarriesValues Finds TooFewHeld
    × CarriesMembers Finds TooFewHeld TooFewMembersHeld
