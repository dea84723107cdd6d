-- How the field-lists and the frames of an encoder represent what a writer holds. The innermost frame comes first. The
-- field-list is that of the innermost message, open type or element of a bag.
use Rattle.std.specs.Prelude.{◌≡◌, ℕ, ◌+◌, ◌^◌, ◌<◌, Bool, true, false, List, [], ◌∷◌, ◌++◌, length, take, drop}
use Rattle.std.specs.Prelude.{replicate, Option, Some, None}
use Rattle.asn1_schema_errors.specs.declared.EncodeError.{EncodeError}
use Rattle.asn1_schema_errors.specs.declared.EncodeError.TheVariants.{OutOfMemory, AlreadyFailed}
use Rattle.asn1_schema_laws.specs.Records.{Record}
use Rattle.per_codec_packing.specs.FieldLists.{FieldList, as_field_list}
use Rattle.per_codec_packing.specs.Packed.{Packed, solid}
use Rattle.per_codec_encoder.specs.Steps.{components, added, open_type, members, alternative, extension_bit_width}
use Rattle.per_codec_encoder.specs.Steps.{State, run}
use Rattle.per_codec_encoder.specs.declared.frame.Frame.{Frame}
use Rattle.per_codec_encoder.specs.declared.frame.Frame.TheVariants.{Components, Added, OpenType, Members, Bag}
use Rattle.per_codec_encoder.specs.declared.frame.Frame.TheVariants.{Alternative}
use Rattle.per_codec_encoder.specs.declared.frame.Position.{Position}
use Rattle.per_codec_writing.specs.Headings.{determinants_of}
use Rattle.per_codec_encoder.specs.Bags.{bag_of}
use Rattle.asn1_schema_reading_laws.specs.PresenceBits.{preamble}

-- The length of the field-list before a position.
abbrev pub at : Position → ℕ
at p = p.bits + p.paddings

-- A field-list at the position of another.
abbrev pub instead : FieldList → Packed → Packed
instead t o = record { field_list = t; placed = o.placed }

-- What the field-list and the frames show.
abbrev pub shown : List Frame → Packed → State
shown [] o = (o.field_list, [])
shown (Components e due given start ∷ fs) o =
    let below = shown fs (instead (take (at start) o.field_list) o) in (
      drop (at start + (extension_bit_width e + (given + due))) o.field_list,
      components e due
          (solid (take given (drop (at start + extension_bit_width e) o.field_list))) below.0 ∷ below.1,
    )
shown (Added a ∷ fs) o =
    let below = shown fs (instead (take (at a.start) o.field_list) o) in (
      drop (at a.end) o.field_list,
      added a.due (solid (take a.given (drop (at a.start + 1) o.field_list)))
          (drop (at a.start + (1 + a.given)) (take (at a.end) o.field_list)) a.slots below.0 ∷ below.1,
    )
shown (OpenType front ∷ fs) o =
    let below = shown fs front in
    (o.field_list, open_type below.0 ∷ below.1)
shown (Members d ∷ fs) o =
    let below = shown fs o in
    (below.0, members d.units (determinants_of d.behind) ∷ below.1)
shown (Bag b ∷ fs) o =
    let below = shown fs b.value.outer in
    (o.field_list, bag_of b.value below.0 ∷ below.1)
shown (Alternative ∷ fs) o =
    let below = shown fs o in
    (below.0, alternative ∷ below.1)

-- The field-list is that before an open sequence, its preamble, in which the bits that are due are zero, and what
-- follows.
pub record IsOpen (below : Packed → State → Type 0) (e : Bool) (due given : ℕ) (start : Position) (o : Packed)
    (s : State) : Type 0 where
  pub front : FieldList
  pub inner : FieldList
  pub presence_bits : List Bool
  pub outer : State
  pub field_list : o.field_list ≡ front ++ (as_field_list (preamble e (presence_bits ++ replicate due false)) ++ inner)
  pub bits : length (solid front) ≡ start.bits
  pub starts : length front ≡ at start
  pub told : length presence_bits ≡ given
  pub counts : start.bits + (extension_bit_width e + (given + due)) < 2 ^ 64
  pub under : below (instead front o) outer
  pub is : s ≡ (inner, components e due presence_bits outer.0 ∷ outer.1)

-- The field-list is that before a sequence after its root, its preamble, with no bit due, its root, and what follows.
pub record IsAdded (below : Packed → State → Type 0) (due given : ℕ) (start end : Position)
    (slots : List (Option (List Bool))) (o : Packed) (s : State) : Type 0 where
  pub front : FieldList
  pub presence_bits : List Bool
  pub root : FieldList
  pub inner : FieldList
  pub outer : State
  pub field_list : o.field_list ≡ front ++ (as_field_list (preamble true presence_bits) ++ (root ++ inner))
  pub bits : length (solid front) ≡ start.bits
  pub starts : length front ≡ at start
  pub told : length presence_bits ≡ given
  pub ends : at start + (1 + given + length root) ≡ at end
  pub end_bits : length (solid (front ++ (as_field_list (preamble true presence_bits) ++ root))) ≡ end.bits
  pub under : below (instead front o) outer
  pub is : s ≡ (inner, added due presence_bits root slots outer.0 ∷ outer.1)

-- The field-list and the frames represent a state.
abbrev pub Holds : List Frame → Packed → State → Type 0
Holds [] o s = (o.placed ≡ true) × (s ≡ (o.field_list, []))
Holds (Components e due given start ∷ fs) o s = IsOpen (λ p t. Holds fs p t) e due given start o s
Holds (Added a ∷ fs) o s = IsAdded (λ p t. Holds fs p t) a.due a.given a.start a.end a.slots o s
Holds (OpenType front ∷ fs) o s = (outer : State) × (s ≡ (o.field_list, open_type outer.0 ∷ outer.1))
    × (o.placed ≡ true) × Holds fs front outer
Holds (Members d ∷ fs) o s = (outer : State) × (s ≡ (outer.0, members d.units (determinants_of d.behind) ∷ outer.1))
    × Holds fs o outer
Holds (Bag b ∷ fs) o s = (outer : State) × (s ≡ (o.field_list, bag_of b.value outer.0 ∷ outer.1)) × (o.placed ≡ false)
    × Holds fs b.value.outer outer
Holds (Alternative ∷ fs) o s = (outer : State) × (s ≡ (outer.0, alternative ∷ outer.1)) × Holds fs o outer

-- The field-list and the frames represent some state.
pub record AreSound (fs : List Frame) (o : Packed) : Type 0 where
  pub state : State
  pub holds : Holds fs o state

-- What a record does to the field-list and the frames in a variant: it follows the step.
pub record Does (al : Bool) (r : Record) (fs : List Frame) (o : Packed) (gs : List Frame) (p : Packed) : Type 0 where
  pub after : (s : State) → Holds fs o s → (t : State) × (run al r s ≡ Some t) × Holds gs p t

-- Why a record was refused: memory ran out, or there is no step.
abbrev pub Cannot : Bool → Record → List Frame → Packed → EncodeError → Type 0
Cannot al r fs o OutOfMemory = Unit {0}
Cannot al r fs o AlreadyFailed = ⊥
Cannot al r fs o e = (s : State) → Holds fs o s → run al r s ≡ None
