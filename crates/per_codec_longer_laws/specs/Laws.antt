-- What appending bits changes for a decoder of PER (X.691), and which of them it takes.
use Rattle.std.specs.Prelude.{◌≡◌, ◌≤◌, ◌<◌, ℕ, ◌+◌, ◌*◌, Bool, true, false, IsTrue, List, [], ◌∷◌, ◌++◌, length}
use Rattle.std.specs.Prelude.{Option}
use Rattle.asn1_model.specs.Schema.{Schema}
use Rattle.asn1_model.specs.Value.{Value, Values, same}
use Rattle.asn1_model.specs.Lawful.{IsLawful}
use Rattle.asn1_model.specs.Per
use Rattle.asn1_schema_laws.specs.Records.{Record}
use Rattle.asn1_schema_laws.specs.Presents.{presents, member_records}
use Rattle.asn1_schema_laws.specs.Chains.{Chain}
use Rattle.per_codec_laws.specs.Takes.{Position, State, Tally, Scope, members, Front, Takes}
use Rattle.per_codec_longer_laws.specs.More.{is_within, with_more, outermost}

-- Records that are next are still next, and the appended bits follow what is left then.
abbrev pub MoreChangesNothing : Type 0
MoreChangesNothing =
    (al : Bool) (free : Per.Freedom → Bool) (e : List Bool) (rs : List Record) (a b : State)
    → Chain (Takes al free) rs a b → Chain (Takes al free) rs (with_more e a) (with_more e b)

-- If records are next with the bits e appended, and as many bits are left after them as e has, the records are next
-- without e.
abbrev pub LeftIsNotNeeded : Type 0
LeftIsNotNeeded =
    (al : Bool) (free : Per.Freedom → Bool) (e : List Bool) (rs : List Record) (a c : State)
    → Chain (Takes al free) rs (with_more e a) c → length e ≤ length (outermost c)
    → (b : State) × (c ≡ with_more e b) × Chain (Takes al free) rs a b

-- Appending bits in two pieces is the same as in one, and appending none changes nothing.
abbrev pub MoreInPieces : Type 0
MoreInPieces =
    ((e f : List Bool) (a : State) → with_more (e ++ f) a ≡ with_more f (with_more e a))
    × ((a : State) → with_more [] a ≡ a)

-- After records no more bits are left outside all open types than before.
abbrev pub NothingGrows : Type 0
NothingGrows =
    (al : Bool) (free : Per.Freedom → Bool) (rs : List Record) (a b : State) → Chain (Takes al free) rs a b
    → length (outermost b) ≤ length (outermost a)

-- If a value of a well-formed type takes no bits, one that is equal up to the order of the elements of each SET OF is
-- next in every state, and takes none there.
abbrev pub EmptyEverywhere : Type 0
EmptyEverywhere =
    (al : Bool) (free : Per.Freedom → Bool) (s : Schema) (v : Value) (a b c : State) → IsTrue (free Per.other_bitmap)
    → IsTrue (free Per.other_order) → IsLawful s → Chain (Takes al free) (presents s v) a b
    → length (a.0.1) ≤ length (b.0.1) → (w : Value) × (same v w ≡ true) × Chain (Takes al free) (presents s w) c c

-- If no value of a well-formed type is next in some state, each takes at least one bit in every state.
abbrev pub TakesSome : Type 0
TakesSome =
    (al : Bool) (free : Per.Freedom → Bool) (s : Schema) (c : State) → IsTrue (free Per.other_bitmap)
    → IsTrue (free Per.other_order) → IsLawful s
    → ((w : Value) (d : State) → Chain (Takes al free) (presents s w) c d → ⊥)
    → (v : Value) (a b : State) → Chain (Takes al free) (presents s v) a b → length (b.0.1) < length (a.0.1)

-- If no element is next, not even with n bits appended, and j elements are to come after that one, the elements are not
-- next with n + j bits appended: each takes at least one bit. This holds outside all open types, since the length
-- determinant of an open type says that its octets are there.
abbrev pub MembersAreLacking : Type 0
MembersAreLacking =
    (al : Bool) (free : Per.Freedom → Bool) (s : Schema) (n j : ℕ) (hs : Option Tally) (p : Position)
    (k : List Scope) → IsTrue (free Per.other_bitmap) → IsTrue (free Per.other_order) → IsLawful s → is_within k ≡ false
    → ((e : List Bool) (v : Value) (c : State) → length e ≤ n
    → Chain (Takes al free) (presents s v) (with_more e (p, members j hs ∷ k)) c → ⊥)
    → (e : List Bool) (v : Value) (vs : Values) (c : State) → length e ≤ n + j
    → Chain (Takes al free) (presents s v ++ member_records (λ w. presents s w) vs)
    (with_more e (p, members j hs ∷ k)) c → ⊥

-- If the bits begin with a length determinant of n units that no fragment follows, the units that it counts, the octets
-- of a string or of an open type or bits, are not there until as many follow it.
abbrev pub LengthsAreLacking : Type 0
LengthsAreLacking =
    (al : Bool) (free : Per.Freedom → Bool) (n : ℕ) (p behind : Position) → Front free (Per.short_length al n) p behind
    → (e : List Bool) (rest : Position)
    → ((ts : List ℕ) → length (behind.1) + length e < n * 8
    → Front free (Per.counted al (Per.octet_units ts)) (p.0, p.1 ++ e) rest → ⊥)
    × ((bs : List Bool) → length (behind.1) + length e < n * 1
    → Front free (Per.counted al (Per.bit_units bs)) (p.0, p.1 ++ e) rest → ⊥)
