-- How the octets and the frames of an encoder represent what a writer holds. The innermost frame comes first.
use Rattle.std.specs.Prelude.{◌≡◌, ℕ, ◌+◌, ◌-◌, ◌/◌, ◌^◌, ◌<◌, Bool, true, false, cond, List, [], ◌∷◌, ◌++◌, length}
use Rattle.std.specs.Prelude.{take, drop, map, replicate, Some, None, slice_index}
use Rattle.asn1_model.specs.Form.{written, exactly, joined}
use Rattle.asn1_model.specs.Numbers.{octet_bits}
use Rattle.asn1_model.specs.Oer
use Rattle.asn1_values_bits.specs.Octets.{padded}
use Rattle.asn1_schema_errors.specs.declared.EncodeError.{EncodeError}
use Rattle.asn1_schema_errors.specs.declared.EncodeError.TheVariants.{AlreadyFailed, OutOfMemory}
use Rattle.asn1_schema_laws.specs.Records.{Record}
use Rattle.oer_codec_encoder.specs.Steps.{components, added, open_type, members, bag_members, alternative, with_open}
use Rattle.asn1_schema_reading_laws.specs.PresenceBits.{is_any_set, preamble}
use Rattle.oer_codec_encoder.specs.Steps.{State, run}
use Rattle.oer_codec_encoder.specs.declared.frame.Additions.{Additions}
use Rattle.oer_codec_encoder.specs.declared.frame.Bag.{Bag as BagFrame}
use Rattle.oer_codec_encoder.specs.declared.frame.Frame.{Frame}
use Rattle.oer_codec_encoder.specs.declared.frame.Frame.TheVariants.{Components, Added, OpenType, Members, Bag}
use Rattle.oer_codec_encoder.specs.declared.frame.Frame.TheVariants.{Alternative}
use Rattle.oer_codec_writing.specs.Writing.{Adds, bits_heading}

-- The number of octets that an extension bit, if there is one, and a number of presence bits fill.
abbrev pub octets_filled : Bool → ℕ → ℕ
octets_filled e n = (n + cond e 1 0 + 7) / 8

-- The presence bits that were given, after the extension bit, if there is one.
abbrev pub given_bits : Bool → ℕ → ℕ → List ℕ → List Bool
given_bits e given start o = take given (drop (length (preamble e [])) (octet_bits (drop start o)))

-- What the octets and the frames show.
abbrev pub shown : List Frame → List ℕ → State
shown [] o = (o, [])
shown (Components c ∷ fs) o =
    let below = shown fs (take c.start o) in (
      drop (c.start + octets_filled c.extensible (c.given + c.due)) o,
      components c.extensible c.due (given_bits c.extensible c.given c.start o) below.0 ∷ below.1,
    )
shown (Added a ∷ fs) o =
    let root = take a.root_end o in
    let below = shown fs (take a.start root) in (
      drop (a.bitmap + octets_filled false (a.given + a.due)) o,
      added a.due (given_bits true a.optional a.start root) (drop (a.start + octets_filled true a.optional) root)
          (given_bits false a.given a.bitmap o) below.0 ∷ below.1,
    )
shown (OpenType start ∷ fs) o =
    let below = shown fs (take start o) in
    (drop (start + 1) o, open_type below.0 ∷ below.1)
shown (Members due ∷ fs) o =
    let below = shown fs o in
    (below.0, members due ∷ below.1)
shown (Bag boxed ∷ fs) o =
    let b = boxed.value in
    let below = shown fs b.outer.items in
    (o, bag_members b.due b.members below.0 ∷ below.1)
shown (Alternative ∷ fs) o =
    let below = shown fs o in
    (below.0, alternative ∷ below.1)

-- The octets are: those before some presence bits; in whole octets, an extension bit that is zero, if there is one,
-- the presence bits given, and those due, which are zero; and those after.
pub record HasBits (e : Bool) (due given start : ℕ) (o : List ℕ) : Type 0 where
  pub front : List ℕ
  pub bitmap : List ℕ
  pub inner : List ℕ
  pub presence_bits : List Bool
  pub text : o ≡ front ++ (bitmap ++ inner)
  pub starts : length front ≡ start
  pub told : length presence_bits ≡ given
  pub counts : given + due < 2 ^ 64
  pub bits : octet_bits bitmap ≡ padded (preamble e (presence_bits ++ replicate due false))
  pub small : (k : ℕ) → k < length bitmap → slice_index bitmap k < 256

-- The octets are those before an open sequence, its preamble, and those after it.
pub record IsOpen (below : List ℕ → State → Type 0) (e : Bool) (due given start : ℕ) (o : List ℕ)
    (s : State) : Type 0 where
  pub has : HasBits e due given start o
  pub outer : State
  pub under : below has.front outer
  pub is : s ≡ (has.inner, components e due has.presence_bits outer.0 ∷ outer.1)

-- The octets are: those up to the end of a root whose preamble has an extension bit of zero; the presence bitmap of
-- the additions, after its heading; and those of the additions.
pub record IsExtended (below : List ℕ → State → Type 0) (a : Additions) (o : List ℕ) (s : State) : Type 0 where
  pub has : HasBits false a.due a.given a.bitmap o
  pub root : List ℕ
  pub heading : List ℕ
  pub text : has.front ≡ root ++ heading
  pub ends : length root ≡ a.root_end
  pub heads : written (bits_heading (a.given + a.due)) 0 ≡ Some heading
  pub preamble : HasBits true 0 a.optional a.start root
  pub outer : State
  pub under : below preamble.front outer
  pub any : a.any ≡ is_any_set has.presence_bits
  pub is : s ≡ (has.inner, added a.due preamble.presence_bits preamble.inner has.presence_bits outer.0 ∷ outer.1)

-- The octets are those before an open type, one reserved octet, and those of the open type.
pub record IsApart (below : List ℕ → State → Type 0) (start : ℕ) (o : List ℕ) (s : State) : Type 0 where
  pub front : List ℕ
  pub room : ℕ
  pub inner : List ℕ
  pub outer : State
  pub text : o ≡ front ++ room ∷ inner
  pub starts : length front ≡ start
  pub under : below front outer
  pub is : s ≡ (inner, open_type outer.0 ∷ outer.1)

-- The octets are those of the open element of a bag. The bag has those before it.
abbrev pub IsInBag : (List ℕ → State → Type 0) → BagFrame → List ℕ → State → Type 0
IsInBag below b o s = (outer : State) × (s ≡ (o, bag_members b.due b.members outer.0 ∷ outer.1))
    × below b.outer.items outer

-- The octets and the frames represent a state.
abbrev pub Holds : List Frame → List ℕ → State → Type 0
Holds [] o s = s ≡ (o, [])
Holds (Components c ∷ fs) o s = IsOpen (λ p t. Holds fs p t) c.extensible c.due c.given c.start o s
Holds (Added a ∷ fs) o s = IsExtended (λ p t. Holds fs p t) a o s
Holds (OpenType start ∷ fs) o s = IsApart (λ p t. Holds fs p t) start o s
Holds (Members due ∷ fs) o s = (below : State) × (s ≡ (below.0, members due ∷ below.1)) × Holds fs o below
Holds (Bag boxed ∷ fs) o s = IsInBag (λ p t. Holds fs p t) boxed.value o s
Holds (Alternative ∷ fs) o s = (below : State) × (s ≡ (below.0, alternative ∷ below.1)) × Holds fs o below

-- The octets and the frames represent some state.
pub record AreSound (fs : List Frame) (o : List ℕ) : Type 0 where
  pub state : State
  pub holds : Holds fs o state

-- What a record does to the octets and the frames: it follows the step.
pub record Does (r : Record) (fs : List Frame) (o : List ℕ) (gs : List Frame) (p : List ℕ) : Type 0 where
  pub after : (s : State) → Holds fs o s → (t : State) × (run r s ≡ Some t) × Holds gs p t

-- Why a record was refused: memory ran out, or there is no step. Its writer does not know of earlier errors.
abbrev pub Cannot : Record → List Frame → List ℕ → EncodeError → Type 0
Cannot r fs o OutOfMemory = Unit {0}
Cannot r fs o AlreadyFailed = ⊥
Cannot r fs o e = (s : State) → Holds fs o s → run r s ≡ None

-- A bag, and the octets of an element: one that begins, or the bag as it was.
abbrev pub NextOfBag : Bool → BagFrame → List ℕ → BagFrame → List ℕ → Type 0
NextOfBag true b o c p = (0 < b.due) × (c.due ≡ b.due - 1) × (c.outer ≡ b.outer)
    × (c.members ≡ Some (with_open b.members o)) × (p ≡ [])
NextOfBag false b o c p = (b.due ≡ 0) × (c ≡ b) × (p ≡ o)

-- No element of a bag is due, and they are added in the ascending order of their octets.
abbrev pub BagEnds : BagFrame → List ℕ → List ℕ → Type 0
BagEnds b o p = (b.due ≡ 0) × Adds
    (written (Oer.in_any_order (map (λ w. exactly w) (with_open b.members o)) (λ xs. joined xs)) 0) b.outer.items p
