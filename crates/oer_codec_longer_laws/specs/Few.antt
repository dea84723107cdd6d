-- How many more octets a decoder of OER (X.696) needs at least after an error.
use Rattle.std.specs.Prelude.{◌≡◌, ◌⊎◌, ◌≤◌, ℕ, ◌+◌, cond, List, [], ◌∷◌, length}
use Rattle.std.specs.Prelude.{Bool, true, false, IsTrue, ◌++◌}
use Rattle.asn1_model.specs.Value.{Value, Values}
use Rattle.asn1_model.specs.Schema.{Schema, Size, Counts}
use Rattle.asn1_model.specs.Lawful.{IsLawful}
use Rattle.asn1_model.specs.Oer
use Rattle.asn1_schema_laws.specs.Records.{Record, list_begins, bag_begins, further}
use Rattle.asn1_schema_laws.specs.Presents.{presents, member_records, Fits}
use Rattle.asn1_schema_laws.specs.Chains.{Chain}
use Rattle.oer_codec_laws.specs.Takes.{State, Scope, members, Takes}
use Rattle.oer_codec_longer_laws.specs.More.{is_within, with_more}
use Rattle.asn1_schema_lacking_laws.specs.Carried.{CarriesRecords, CarriesValues, CarriesMembers}

-- How many elements are still to come in all lists and SET OF values outside open types.
abbrev pub due : List Scope → ℕ
due [] = 0
due (members n ∷ k) = cond (is_within k) (due k) (n + due k)
due (s ∷ k) = due k

-- The scopes around the innermost one.
abbrev pub around : List Scope → List Scope
around [] = []
around (s ∷ k) = k

-- c is a with octets appended: at most n, less `owed`, the number of elements that are still to come; or none.
abbrev pub FewMore : ℕ → ℕ → State → State → Type 0
FewMore n owed a c = (e : List ℕ) × (c ≡ with_more e a) × ((length e + owed ≤ n) ⊎ (e ≡ []))

abbrev pub TooFew : ℕ → State → State → Type 0
TooFew n a c = FewMore n (due a.1) a c

-- As `TooFew`, with a list as the innermost scope, whose own elements do not count.
abbrev pub TooFewMembers : ℕ → State → State → Type 0
TooFewMembers n a c = FewMore n (due (around a.1)) a c

-- What is next is also next with a few octets appended, and missing elements lack the octets that the laws say. A
-- failed decoder lacks more than n octets in all, a number that depends only on its state.
abbrev pub FewCarried : Type 0
FewCarried =
    (free : Oer.Freedom → Bool) (n : State → ℕ) → IsTrue (free Oer.other_bitmap) → IsTrue (free Oer.other_order)
    → CarriesRecords (Takes free) (λ a failed c. TooFew (n failed) a c)
    × CarriesValues (Takes free) (λ a failed c. TooFew (n failed) a c)
    × CarriesMembers (Takes free) (λ a failed c. TooFew (n failed) a c) (λ a failed c. TooFewMembers (n failed) a c)
