-- What has begun and has not ended, as a decoder of PER (X.691) holds it.
use Rattle.std.specs.Prelude.{◌≡◌, ℕ, ◌+◌, Bool, List, [], ◌∷◌, map, Option, Some, None}
use Rattle.asn1_model.specs.Per
use Rattle.per_codec_laws.specs.Takes.{Position, State, Scope, components, added, open_type, members, alternative}
use Rattle.per_codec_laws.specs.Takes.{AdditionsBegin, NextAddition, AdditionEnds, Ends}
use Rattle.per_codec_reading.specs.Runs.{Storage}
use Rattle.per_codec_decoder.specs.Additions.{own_presence, unknown_presence}
use Rattle.per_codec_decoder.specs.declared.frames.Frame.{Frame}
use Rattle.per_codec_decoder.specs.declared.frames.Frame.TheVariants.{Components, Added, OpenType, Members, Alternative}
use Rattle.per_codec_decoder.specs.declared.frames.Enclosing.{Enclosing}
use Rattle.per_codec_decoder.specs.declared.frames.Enclosing.TheVariants.{OpenType as Opened, Alternative as Chosen}
use Rattle.per_codec_decoder.specs.declared.frames.Ending.{Ending}
use Rattle.per_codec_decoder.specs.declared.frames.Ending.TheVariants.{Nothing, Unknown, OpenType as Padded}

-- An open scope.
abbrev pub scope_of : Frame → Scope
scope_of (Components r x) = components x r.place.1
scope_of (Added a) = added (own_presence a) (unknown_presence a)
scope_of (OpenType p) = open_type p.place
scope_of (Members p) = members p.due p.tally
scope_of Alternative = alternative

-- An open scope that contains a single value.
abbrev pub scope_around : Enclosing → Scope
scope_around (Opened p) = open_type p.place
scope_around Chosen = alternative

-- The open scopes, the innermost first: one that contains a single value, if there is one, and those of the frames.
abbrev pub scopes_of : Option Enclosing → List Frame → List Scope
scopes_of None fs = map scope_of fs
scopes_of (Some e) fs = scope_around e ∷ map scope_of fs

-- The number of elements that are still to come in frames, the outermost first, up to the first open type.
abbrev pub owing : List Frame → ℕ
owing [] = 0
owing (OpenType behind ∷ fs) = 0
owing (Members p ∷ fs) = p.due + owing fs
owing (f ∷ fs) = owing fs

-- Where the bits after each open type among the frames are stored, the innermost first.
abbrev pub behind_frame : Frame → List Storage → List Storage
behind_frame (OpenType p) k = p.storage ∷ k
behind_frame f k = k

abbrev pub behind_around : Enclosing → List Storage → List Storage
behind_around (Opened p) k = p.storage ∷ k
behind_around Chosen k = k

abbrev pub behind_frames : List Frame → List Storage
behind_frames [] = []
behind_frames (f ∷ fs) = behind_frame f (behind_frames fs)

abbrev pub behind_of : Option Enclosing → List Frame → List Storage
behind_of None fs = behind_frames fs
behind_of (Some e) fs = behind_around e (behind_frames fs)

-- What is open: the scopes, and where the bits after each open type among them are stored.
pub record Open : Type 0 where
  pub scopes : List Scope
  pub behind : List Storage

-- The storages, innermost first, with that of the bits after an open type put second.
abbrev pub beneath : Storage → List Storage → List Storage
beneath s [] = []
beneath s (t ∷ k) = t ∷ s ∷ k

abbrev pub stands_in : Frame → List Storage → List Storage
stands_in (OpenType p) l = beneath p.storage l
stands_in f l = l

-- All root components of the innermost SEQUENCE or SET were read, and this is its extension bit.
abbrev pub HasExtensionBit : Bool → List Scope → Type 0
HasExtensionBit m s = (k : List Scope) × (s ≡ components (Some m) [] ∷ k)

-- No additions come here.
abbrev pub NoAdditions : List Scope → Type 0
NoAdditions s = (al : Bool) (free : Per.Freedom → Bool) (n : ℕ) (a : Position) (b : State)
    → AdditionsBegin al free n a s b → ⊥

-- The next bit of the innermost presence bitmap.
abbrev pub NextBitmapBit : Bool → List Scope → List Scope → Type 0
NextBitmapBit v old new = (ms : List Bool) × (us : List Bool) × (k : List Scope) × (old ≡ added (v ∷ ms) us ∷ k)
    × (new ≡ added ms us ∷ k)

-- No further addition is due here.
abbrev pub NoAdditionDue : List Scope → Type 0
NoAdditionDue s = (al : Bool) (free : Per.Freedom → Bool) (v : Bool) (a : Position) (b : State)
    → NextAddition al free v a s b → ⊥

-- The innermost scope is left, with this before its end.
abbrev pub Leaves : Ending → List Scope → List Scope → Type 0
Leaves Nothing old new = (al : Bool) (free : Per.Freedom → Bool) (a : Position) → Ends al free a old (a, new)
Leaves (Unknown r) old new = old ≡ added [] r.place.1 ∷ new
Leaves (Padded p) old new = old ≡ open_type p.place ∷ new

-- The storages of the bits after the open types: the first one goes if the scope that is left is an open type.
abbrev pub LeavesBehind : Ending → List Storage → List Storage → Type 0
LeavesBehind Nothing old new = old ≡ new
LeavesBehind (Unknown r) old new = old ≡ new
LeavesBehind (Padded p) old new = old ≡ p.storage ∷ new

-- No end comes here.
abbrev pub NoEnd : List Scope → Type 0
NoEnd s = (al : Bool) (free : Per.Freedom → Bool) (a : Position) (b : State) → Ends al free a s b → ⊥

-- The innermost scope is that of extension additions.
abbrev pub IsAdded : List Scope → Type 0
IsAdded s = (ms : List Bool) × (us : List Bool) × (k : List Scope) × (s ≡ added ms us ∷ k)

-- An addition is left, after which comes this position.
abbrev pub LeavesAddition : Position → List Scope → List Scope → Type 0
LeavesAddition p old new = (old ≡ open_type p ∷ new) × IsAdded new

-- No end of an addition comes here.
abbrev pub NoAdditionEnd : List Scope → Type 0
NoAdditionEnd s = (free : Per.Freedom → Bool) (a : Position) (b : State) → AdditionEnds free a s b → ⊥
