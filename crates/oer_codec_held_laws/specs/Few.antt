-- How many more octets a decoder of OER (X.696) needs at least after an error.
use Rattle.std.specs.Prelude.{◌≡◌, ◌⊎◌, ◌≤◌, ℕ, ◌+◌, List, [], length}
use Rattle.oer_codec_longer_laws.specs.More.{octets_with, scopes_with}
use Rattle.oer_codec_longer_laws.specs.Few.{due, around}
use Rattle.asn1_schema_lacking_laws.specs.Carried.{CarriesRecords, CarriesValues, CarriesMembers}
use Rattle.oer_codec_held_laws.specs.Held.{Held, Finds}

-- The state after octets were appended.
abbrev pub held_with : List ℕ → Held → Held
held_with e h = record {
  octets = octets_with e h.scopes h.octets;
  scopes = scopes_with e h.scopes;
  levels = h.levels;
  most = h.most;
  failed = h.failed;
  short = h.short;
  rules = h.rules;
}

-- How many octets a failed decoder lacks at least: one for each element that is still to come in the scopes that it
-- kept, except in open types, and those that it counts itself.
abbrev pub lacks : Held → ℕ
lacks failed = due failed.scopes + failed.short

-- A failed decoder kept its scopes, and counts n missing octets.
abbrev pub Keeps : ℕ → Held → Held → Type 0
Keeps n old failed = (failed.scopes ≡ old.scopes) × (failed.short ≡ n)

abbrev pub Empties : Held → Type 0
Empties failed = (failed.scopes ≡ []) × (failed.short ≡ 0)

-- No octets, or at most as many as are missing, less the number of elements that were still to come.
abbrev pub Fewer : ℕ → Held → Held → List ℕ → Type 0
Fewer owed a failed e = ((a.levels ≤ a.most) × (length e + owed ≤ lacks failed)) ⊎ (e ≡ [])

abbrev pub FewHeld : ℕ → Held → Held → Held → Type 0
FewHeld owed a failed c = (e : List ℕ) × (c ≡ held_with e a) × Fewer owed a failed e

abbrev pub TooFewHeld : Held → Held → Held → Type 0
TooFewHeld a failed c = FewHeld (due a.scopes) a failed c

-- As `TooFewHeld`, with a list as the innermost scope, whose own elements do not count.
abbrev pub TooFewMembersHeld : Held → Held → Held → Type 0
TooFewMembersHeld a failed c = FewHeld (due (around a.scopes)) a failed c

-- What is found is also found with a few octets appended, and missing elements lack the octets that the laws say.
abbrev pub FewFound : Type 0
FewFound =
    CarriesRecords Finds TooFewHeld × CarriesValues Finds TooFewHeld
    × CarriesMembers Finds TooFewHeld TooFewMembersHeld
