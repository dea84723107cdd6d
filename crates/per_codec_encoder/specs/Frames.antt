-- The frames of an encoder, and how the additions of the innermost one change.
use Rattle.std.specs.Prelude.{◌≡◌, ◌-◌, ◌<◌, Bool, true, false, cond, List, [], ◌∷◌, ◌++◌, Option, Some, None}
use Rattle.per_codec_encoder.specs.declared.frame.Additions.{Additions}
use Rattle.per_codec_encoder.specs.declared.frame.Frame.{Frame}
use Rattle.per_codec_packing.specs.Packed.{Packed}
use Rattle.per_codec_encoder.specs.declared.frame.Frame.TheVariants.{Components, Added, OpenType, Members, Bag}
use Rattle.per_codec_encoder.specs.declared.frame.Frame.TheVariants.{Alternative}

-- Whether something is written at the end of a frame.
abbrev pub is_written_at_end : Frame → Bool
is_written_at_end (Components e due given start) = false
is_written_at_end (Added a) = true
is_written_at_end (OpenType o) = true
is_written_at_end (Members d) = false
is_written_at_end (Bag b) = true
is_written_at_end Alternative = false

-- An open type, if there is one, is inside the others: the field-list before it is given.
abbrev pub enclosed : Option Packed → List Frame → List Frame
enclosed None fs = fs
enclosed (Some o) fs = OpenType o ∷ fs

-- The additions after the next one: one fewer is due, and an absent one has its slot.
pub record Next (here : Bool) (a b : Additions) : Type 0 where
  pub one : 0 < a.due
  pub counts : b.due ≡ a.due - 1
  pub given : b.given ≡ a.given
  pub start : b.start ≡ a.start
  pub end : b.end ≡ a.end
  pub slots : b.slots ≡ cond here a.slots (a.slots ++ None ∷ [])

-- The additions with the bits of one more, which is present.
pub record Keeps (contents : List Bool) (a b : Additions) : Type 0 where
  pub counts : b.due ≡ a.due
  pub given : b.given ≡ a.given
  pub start : b.start ≡ a.start
  pub end : b.end ≡ a.end
  pub slots : b.slots ≡ a.slots ++ Some contents ∷ []

-- The next addition of the innermost sequence is counted.
pub record CountsAddition (here : Bool) (fs gs : List Frame) : Type 0 where
  pub around : List Frame
  pub old : Additions
  pub new : Additions
  pub before : fs ≡ Added old ∷ around
  pub next : Next here old new
  pub after : gs ≡ Added new ∷ around

-- The bits of an addition of the innermost sequence are stored.
pub record KeepsAddition (contents : List Bool) (fs gs : List Frame) : Type 0 where
  pub around : List Frame
  pub old : Additions
  pub new : Additions
  pub before : fs ≡ Added old ∷ around
  pub next : Keeps contents old new
  pub after : gs ≡ Added new ∷ around
