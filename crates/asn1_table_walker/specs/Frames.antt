-- What the frames of a walk over a table mean.
use Rattle.std.specs.Prelude.{ℕ, ◌+◌, Bool, true, false, cond, List, [], ◌∷◌, drop, Option, Some, None, slice_get}
use Rattle.asn1_model.specs.Normal.{is_required}
use Rattle.asn1_schema_constraints.specs.Bounds.{members_of}
use Rattle.asn1_schema_constraints.specs.declared.bounds.Bounded.TheVariants.{None as Unbounded}
use Rattle.asn1_schema_laws.specs.Records.{Record}
use Rattle.asn1_table_laws.specs.Walks as walk
use Rattle.asn1_table_tape.specs.Records.{list_record}
use Rattle.asn1_table_tape.specs.Terms.{Lists, members_in, lists_in}
use Rattle.asn1_table_nodes.specs.Meaning.{components_of, presence_of, type_at}
use Rattle.asn1_table_nodes.specs.declared.nodes.Component.{Component}
use Rattle.asn1_table_nodes.specs.declared.nodes.TypeNode.{TypeNode}
use Rattle.asn1_table_nodes.specs.declared.nodes.TypeNode.TheVariants.{Boolean, Null, Integer, Enumerated, BitString}
use Rattle.asn1_table_nodes.specs.declared.nodes.TypeNode.TheVariants.{OctetString, CharacterString, ObjectIdentifier}
use Rattle.asn1_table_walker.specs.declared.frames.Frame.{Frame}
use Rattle.asn1_table_walker.specs.declared.frames.Frame.TheVariants.{Members, Root, Noting, Added, Inside}
use Rattle.asn1_table_walker.specs.declared.frames.Frame.TheVariants.{Alternative, Closing}
use Rattle.asn1_table_walker.specs.declared.frames.Turn.{Turn}
use Rattle.asn1_table_walker.specs.declared.frames.Turn.TheVariants.{Ended, Again, Value}

-- The rest of a list, whose elements have the type at index i.
abbrev pub pending_members : List TypeNode → ℕ → (ℕ → Record) → Option ℕ → ℕ → ℕ → walk.Pending
pending_members ns n f (Some i) begins count = walk.members f (members_of Unbounded) (type_at ns n i) begins count
pending_members ns n f None begins count = walk.lost

-- From the root component at index i on.
abbrev pub pending_root : List TypeNode → ℕ → Option Lists → ℕ → walk.Pending
pending_root ns n (Some t) i =
    walk.root (components_of (λ j. type_at ns n j) (drop i t.root)) t.extensible
    (components_of (λ j. type_at ns n j) t.additions)
pending_root ns n None i = walk.lost

-- After the value of a component that may be absent, the first of these, whose presence bit is at from.
abbrev pub pending_noting : List TypeNode → ℕ → Lists → List Component → ℕ → walk.Pending
pending_noting ns n t [] from = walk.lost
pending_noting ns n t (c ∷ cs) from =
    cond (is_required (presence_of c.presence)) walk.lost
    (walk.noting (presence_of c.presence) (type_at ns n c.place) from (components_of (λ j. type_at ns n j) cs)
    t.extensible (components_of (λ j. type_at ns n j) t.additions))

-- The same by the index of the component.
abbrev pub pending_noted : List TypeNode → ℕ → Option Lists → ℕ → ℕ → walk.Pending
pending_noted ns n (Some t) i from = pending_noting ns n t (drop i t.root) from
pending_noted ns n None i from = walk.lost

-- From the addition at index i on.
abbrev pub pending_added : List TypeNode → ℕ → Option Lists → ℕ → walk.Pending
pending_added ns n (Some t) i = walk.added (components_of (λ j. type_at ns n j) (drop i t.additions))
pending_added ns n None i = walk.lost

-- After the value of an addition, the first of these, whose record is at from.
abbrev pub pending_ending : List TypeNode → ℕ → List Component → ℕ → walk.Pending
pending_ending ns n [] from = walk.lost
pending_ending ns n (c ∷ cs) from =
    walk.inside (presence_of c.presence) (type_at ns n c.place) from (components_of (λ j. type_at ns n j) cs)

-- The same by the index of the addition.
abbrev pub pending_inside : List TypeNode → ℕ → Option Lists → ℕ → ℕ → walk.Pending
pending_inside ns n (Some t) i from = pending_ending ns n (drop i t.additions) from
pending_inside ns n None i from = walk.lost

-- What a frame means where n levels are left inside of it.
abbrev pub pending_of : List TypeNode → ℕ → Frame → walk.Pending
pending_of ns n (Members list begins count) =
    pending_members ns n (λ k. list_record (slice_get ns list) k) (members_in (slice_get ns list)) begins count
pending_of ns n (Root i next) = pending_root ns n (lists_in (slice_get ns i)) next
pending_of ns n (Added i next) = pending_added ns n (lists_in (slice_get ns i)) next
pending_of ns n (Noting i component from) = pending_noted ns n (lists_in (slice_get ns i)) component from
pending_of ns n (Inside i component from) = pending_inside ns n (lists_in (slice_get ns i)) component from
pending_of ns n (Alternative i) = walk.chosen (type_at ns n i)
pending_of ns n Closing = walk.closing

-- What a frame means, if there is one.
abbrev pub pending_in : List TypeNode → ℕ → Option Frame → Option walk.Pending
pending_in ns n None = None
pending_in ns n (Some f) = Some (pending_of ns n f)

-- The frames from the innermost on, each in one level more.
abbrev pub pendings : List TypeNode → ℕ → List Frame → List walk.Pending
pendings ns n [] = []
pendings ns n (f ∷ fs) = pending_of ns n f ∷ pendings ns (n + 1) fs

-- What a turn leaves, as the laws have it.
abbrev pub turn_of : List TypeNode → ℕ → Turn → walk.Turn
turn_of ns n Ended = walk.ended
turn_of ns n (Again f) = walk.again (pending_of ns n f)
turn_of ns n (Value f i) = walk.value (pending_of ns n f) (type_at ns n i)

-- What reading leaves of a list, whose elements have the type at index i: another element comes first, or none does.
abbrev pub element_turn : ℕ → ℕ → ℕ → ℕ → Bool → Turn
element_turn list begins count i true = Value (Members list begins (count + 1)) i
element_turn list begins count i false = Ended

-- How many levels are entered, and left.
abbrev pub levels_in : Option Frame → ℕ
levels_in None = 0
levels_in (Some f) = 1

abbrev pub levels_closed : Turn → ℕ
levels_closed Ended = 1
levels_closed t = 0

-- Whether a value of a type is one record.
abbrev pub is_single : TypeNode → Bool
is_single Boolean = true
is_single Null = true
is_single (Integer l) = true
is_single (Enumerated t) = true
is_single (BitString z) = true
is_single (OctetString z) = true
is_single (CharacterString t) = true
is_single ObjectIdentifier = true
is_single t = false

-- Frames, and one more inside of them.
abbrev pub with_frame : Option Frame → List Frame → List Frame
with_frame None fs = fs
with_frame (Some f) fs = f ∷ fs
