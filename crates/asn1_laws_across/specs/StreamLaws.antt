-- Laws of streams.
use Rattle.std.specs.Prelude.{◌≡◌, ℕ, ◌+◌, ◌≤◌, List, ◌++◌, length, take, Option, Some, None}
use Rattle.asn1_model.specs.Schema.{Schema}
use Rattle.asn1_model.specs.Lawful.{IsLawful}
use Rattle.asn1_model.specs.Rules.{Rules}
use Rattle.std.specs.List.{concat}
use Rattle.asn1_laws_across.specs.Streams.{Message, HasNoMessage, Divides, AreSame}
use Rattle.asn1_laws_across.specs.Relayed.{Stop, HasEmptyMessage, StopsAt, Relays, RelaysPieces, Translates, EndsBefore}

-- Octets divide into messages and a rest in at most one way.
abbrev pub DividedOnce : Type 0
DividedOnce =
    (r : Rules) (s : Schema) (limit : ℕ) (ms ns : List Message) (rest other w : List ℕ) → IsLawful s
    → Divides r s limit ms rest w → Divides r s limit ns other w → (rest ≡ other) × AreSame ms ns

-- If more octets arrive, the messages so far are followed by those into which the rest and the new octets divide.
abbrev pub GoesOnAlike : Type 0
GoesOnAlike =
    (r : Rules) (s : Schema) (limit : ℕ) (ms ns : List Message) (rest other w x : List ℕ) → Divides r s limit ms rest w
    → Divides r s limit ns other (rest ++ x) → Divides r s limit (ms ++ ns) other (w ++ x)

-- If more octets arrive, any division of all the octets begins with the messages so far, and the rest and the new
-- octets divide into its other messages.
abbrev pub BeginsAlike : Type 0
BeginsAlike =
    (r : Rules) (s : Schema) (limit : ℕ) (ms all : List Message) (rest other w x : List ℕ) → IsLawful s
    → Divides r s limit ms rest w → Divides r s limit all other (w ++ x) → (ls : List Message) × (ns : List Message)
    × (ls ++ ns ≡ all) × AreSame ms ls × Divides r s limit ns other (rest ++ x)

-- ---- what a relay does

-- A relay has at most one result on given octets.
abbrev pub RelayedOnce : Type 0
RelayedOnce =
    (source target : Rules) (s : Schema) (limit : ℕ) (w : List ℕ) (n k : ℕ) (o q rest other : List ℕ)
    (why cause : Option Stop) → IsLawful s
    → Relays source target s limit w n o rest why → Relays source target s limit w k q other cause → (n ≡ k) × (o ≡ q)
    × (rest ≡ other) × (why ≡ cause)

-- If a relay waits and more octets arrive, it goes on with the unread octets.
abbrev pub RelayGoesOn : Type 0
RelayGoesOn =
    (source target : Rules) (s : Schema) (limit : ℕ) (w x : List ℕ) (n k : ℕ) (o q rest other : List ℕ)
    (why : Option Stop)
    → Relays source target s limit w n o rest None → Relays source target s limit (rest ++ x) k q other why
    → Relays source target s limit (w ++ x) (n + k) (o ++ q) other why

-- If a relay stops, it stops there for the same reason whatever octets follow.
abbrev pub RelayStopsForGood : Type 0
RelayStopsForGood =
    (source target : Rules) (s : Schema) (limit : ℕ) (w x : List ℕ) (n : ℕ) (o rest : List ℕ) (why : Stop)
    → Relays source target s limit w n o rest (Some why)
    → Relays source target s limit (w ++ x) n o (rest ++ x) (Some why)

-- Only the concatenation of the pieces matters, not where they are cut: what the calls write in turn, and the message
-- at which they stop, are those of all octets at once.
abbrev pub PiecesAreJoined : Type 0
PiecesAreJoined =
    (source target : Rules) (s : Schema) (limit : ℕ) (unread : List ℕ) (pieces : List (List ℕ)) (n : ℕ)
    (o rest : List ℕ) (why : Option Stop)
    → StopsAt source target s limit unread None → RelaysPieces source target s limit unread pieces n o rest why
    → (other : List ℕ) × Relays source target s limit (unread ++ concat pieces) n o other why
    × (why ≡ None → other ≡ rest)

-- A relay relays the first of the messages into which octets divide: all of them, with the rest unread; or it stops at
-- the next one, whose encoding in the target rules does not exist or is empty.
abbrev pub RelaysTheFirst : Type 0
RelaysTheFirst = (source target : Rules) (s : Schema) (limit : ℕ) (w rest out unread : List ℕ) (ms : List Message)
    → (n : ℕ) (why : Option Stop) → IsLawful s → Divides source s limit ms rest w
    → (h : Relays source target s limit w n out unread why)
    → (front : List Message) × (behind : List Message) × (front ++ behind ≡ ms)
    × AreSame h.messages front × EndsBefore target s behind rest unread why

-- If each message has a non-empty encoding in the target rules, all are relayed: the concatenation of these encodings
-- is written, and the rest is unread.
abbrev pub RelaysAll : Type 0
RelaysAll = (source target : Rules) (s : Schema) (limit : ℕ) (w rest joined out unread : List ℕ) (ms : List Message)
    → (n : ℕ) (why : Option Stop) → IsLawful s → Divides source s limit ms rest w → Translates target s ms joined
    → (h : Relays source target s limit w n out unread why)
    → AreSame h.messages ms × (n ≡ length ms) × (out ≡ joined) × (unread ≡ rest)

-- ---- the limit

-- Octets begin with no message within the limit exactly if their first octets, up to the limit, do so.
abbrev pub WithinTheLimit : Type 0
WithinTheLimit = (r : Rules) (s : Schema) (limit : ℕ) (w : List ℕ)
    → (HasNoMessage r s limit w → HasNoMessage r s limit (take limit w))
    × (HasNoMessage r s limit (take limit w) → HasNoMessage r s limit w)

-- If octets, at least as many as the limit of a message, begin with no message, they begin with none whatever octets
-- follow.
abbrev pub NoneWithinIsNone : Type 0
NoneWithinIsNone = (r : Rules) (s : Schema) (limit : ℕ) (w x : List ℕ)
    → limit ≤ length w → HasNoMessage r s limit w → HasNoMessage r s limit (w ++ x)

-- If the empty octet string is an encoding of the type, no other octets are, so no octets begin with a message.
abbrev pub EmptyIsAlone : Type 0
EmptyIsAlone = (r : Rules) (s : Schema) (limit : ℕ) (w : List ℕ)
    → IsLawful s → HasEmptyMessage r s → HasNoMessage r s limit w
