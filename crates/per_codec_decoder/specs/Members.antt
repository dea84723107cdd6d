-- What precedes the elements of a list (X.691 20), and why the bits do not begin with it.
use Rattle.std.specs.Prelude.{◌≡◌, ℕ, Bool, List, ◌∷◌, Option, Some, None}
use Rattle.std.proofs.Common.{Box, Global}
use Rattle.asn1_model.specs.Schema.{Counts, Size}
use Rattle.asn1_model.specs.Per
use Rattle.asn1_schema_errors.specs.declared.DecodeError.{DecodeError}
use Rattle.asn1_schema_errors.specs.declared.DecodeError.TheVariants.{OutOfMemory}
use Rattle.per_codec_laws.specs.Sizes.{extension_bit, told_highest}
use Rattle.per_codec_laws.specs.Takes.{Position, Tally, Scope, members, State, Front, NextDeterminant, Counted}
use Rattle.per_codec_laws.specs.Takes.{ListBegins, NextMember}
use Rattle.per_codec_reading.specs.declared.rules.PackedRules.{PackedRules}
use Rattle.per_codec_reading.specs.Fronts.{freedoms, is_aligned}
use Rattle.per_codec_reading.specs.Lengths.{length_form}
use Rattle.per_codec_reading.specs.declared.length.Length.{Length}

-- The elements after one length determinant: how many are due, and what is known of the list if another length
-- determinant follows them.
pub record Due : Type 0 where
  pub due : ℕ
  pub tally : Option Tally

-- What the pointer of a list says of it.
abbrev pub tally_in : Option (Box Tally Global) → Option Tally
tally_in None = None
tally_in (Some boxed) = Some boxed.value

-- The extension bit of the size, if it has one, and the first length determinant: this number of elements is due after
-- it.
abbrev pub HasMembers : Bool → (Per.Freedom → Bool) → Size → Counts → ℕ → Option Tally → Position → Position → Type 0
HasMembers al free z h due hs a b = (out : Bool) × (mid : Position) × Front free (extension_bit z.extensible out) a mid
    × ((k : List Scope) → Counted al free z h out (told_highest out z.counts.high) mid k (b, members due hs ∷ k))

-- Why the bits do not begin with it: memory ran out, or no list begins here.
pub record NoMembers (al : Bool) (free : Per.Freedom → Bool) (z : Size) (h : Counts) (a : Position)
    (e : DecodeError) : Type 0 where
  pub none : ¬ (e ≡ OutOfMemory) → (n : ℕ) (k : List Scope) (b : State) → ListBegins al free z h n (a, k) b → ⊥

-- As `NoMembers`, for a length determinant.
pub record NoDeterminant (al : Bool) (free : Per.Freedom → Bool) (t : Tally) (a : Position)
    (e : DecodeError) : Type 0 where
  pub none : ¬ (e ≡ OutOfMemory) → (b : Position) (due : ℕ) (hs : Option Tally)
      → NextDeterminant al free t a b due hs → ⊥

-- As `NoMembers`, for another element, or the end.
pub record NoFurther (al : Bool) (free : Per.Freedom → Bool) (a : Position) (k : List Scope)
    (e : DecodeError) : Type 0 where
  pub none : ¬ (e ≡ OutOfMemory) → (v : Bool) (b : State) → NextMember al free v a k b → ⊥

-- This number of elements is due after this length determinant, wherever it occurs.
abbrev pub AreBehind : PackedRules → Tally → Length → ℕ → Option Tally → Type 0
AreBehind r t l due hs = (a b : Position) → Front (freedoms r) (length_form (is_aligned r) l) a b
    → NextDeterminant (is_aligned r) (freedoms r) t a b due hs

-- Why no elements are due after it.
abbrev pub NoneAreBehind : PackedRules → Tally → Length → DecodeError → Type 0
NoneAreBehind r t l e = (a b : Position) → Front (freedoms r) (length_form (is_aligned r) l) a b
    → NoDeterminant (is_aligned r) (freedoms r) t a e
