-- What appending octets changes for a decoder of OER (X.696), and which of them it takes.
use Rattle.std.specs.Prelude.{◌≡◌, ◌≤◌, ◌<◌, ℕ, ◌+◌, Bool, true, false, IsTrue, List, [], ◌∷◌, ◌++◌, length}
use Rattle.asn1_model.specs.Schema.{Schema}
use Rattle.asn1_model.specs.Value.{Value, Values, same}
use Rattle.asn1_model.specs.Lawful.{IsLawful}
use Rattle.asn1_model.specs.Oer
use Rattle.asn1_schema_laws.specs.Records.{Record}
use Rattle.asn1_schema_laws.specs.Presents.{presents, member_records}
use Rattle.asn1_schema_laws.specs.Chains.{Chain}
use Rattle.oer_codec_laws.specs.Takes.{State, Scope, members, Front, Takes}
use Rattle.oer_codec_longer_laws.specs.More.{is_within, with_more, outermost}

-- Records that are next are still next, and the appended octets follow what is left then.
abbrev pub MoreChangesNothing : Type 0
MoreChangesNothing =
    (free : Oer.Freedom → Bool) (e : List ℕ) (rs : List Record) (a b : State) → Chain (Takes free) rs a b
    → Chain (Takes free) rs (with_more e a) (with_more e b)

-- If records are next with the octets e appended, and as many octets are left after them as e has, the records are next
-- without e.
abbrev pub LeftIsNotNeeded : Type 0
LeftIsNotNeeded =
    (free : Oer.Freedom → Bool) (e : List ℕ) (rs : List Record) (a c : State) → Chain (Takes free) rs (with_more e a) c
    → length e ≤ length (outermost c) → (b : State) × (c ≡ with_more e b) × Chain (Takes free) rs a b

-- Appending octets in two pieces is the same as in one, and appending none changes nothing.
abbrev pub MoreInPieces : Type 0
MoreInPieces =
    ((e f : List ℕ) (a : State) → with_more (e ++ f) a ≡ with_more f (with_more e a))
    × ((a : State) → with_more [] a ≡ a)

-- After records no more octets are left outside all open types than before.
abbrev pub NothingGrows : Type 0
NothingGrows =
    (free : Oer.Freedom → Bool) (rs : List Record) (a b : State) → Chain (Takes free) rs a b
    → length (outermost b) ≤ length (outermost a)

-- If a value of a well-formed type takes no octets, one that is equal up to the order of the elements of each SET OF is
-- next in every state, and takes none there.
abbrev pub EmptyEverywhere : Type 0
EmptyEverywhere =
    (free : Oer.Freedom → Bool) (s : Schema) (v : Value) (a b c : State) → IsTrue (free Oer.other_bitmap)
    → IsTrue (free Oer.other_order) → IsLawful s → Chain (Takes free) (presents s v) a b
    → length (a.0) ≤ length (b.0) → (w : Value) × (same v w ≡ true) × Chain (Takes free) (presents s w) c c

-- If no value of a well-formed type is next in some state, each takes at least one octet in every state.
abbrev pub TakesSome : Type 0
TakesSome =
    (free : Oer.Freedom → Bool) (s : Schema) (c : State) → IsTrue (free Oer.other_bitmap)
    → IsTrue (free Oer.other_order) → IsLawful s
    → ((w : Value) (d : State) → Chain (Takes free) (presents s w) c d → ⊥)
    → (v : Value) (a b : State) → Chain (Takes free) (presents s v) a b → length (b.0) < length (a.0)

-- If no element is next, not even with n octets appended, and j elements are to come after that one, the elements are
-- not next with n + j octets appended: each takes at least one octet. This holds outside all open types, since the
-- length determinant of an open type says that its octets are there.
abbrev pub MembersAreLacking : Type 0
MembersAreLacking =
    (free : Oer.Freedom → Bool) (s : Schema) (n j : ℕ) (os : List ℕ) (k : List Scope) → IsTrue (free Oer.other_bitmap)
    → IsTrue (free Oer.other_order) → IsLawful s → is_within k ≡ false
    → ((e : List ℕ) (v : Value) (c : State) → length e ≤ n
    → Chain (Takes free) (presents s v) (with_more e (os, members j ∷ k)) c → ⊥)
    → (e : List ℕ) (v : Value) (vs : Values) (c : State) → length e ≤ n + j
    → Chain (Takes free) (presents s v ++ member_records (λ w. presents s w) vs) (with_more e (os, members j ∷ k)) c
    → ⊥

-- If the octets begin with a length determinant of n, the octets that it counts, those of a string or of an open type,
-- are not there until n octets follow it.
abbrev pub LengthsAreLacking : Type 0
LengthsAreLacking =
    (free : Oer.Freedom → Bool) (n : ℕ) (os behind : List ℕ) → Front free (Oer.length_form n) os behind
    → (e ts rest : List ℕ) → length behind + length e < n → Front free (Oer.counted ts) (os ++ e) rest → ⊥
