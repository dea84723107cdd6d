-- The frames of an encoder, and how they change.
use Rattle.std.specs.Prelude.{◌≡◌, ℕ, ◌+◌, ◌-◌, ◌<◌, Bool, ◌||◌, List, ◌∷◌, not, ltb, Option, Some, None}
use Rattle.asn1_schema_errors.specs.declared.EncodeError.{EncodeError}
use Rattle.asn1_schema_errors.specs.declared.EncodeError.TheVariants.{AlreadyFailed, OutOfMemory}
use Rattle.oer_codec_encoder.specs.declared.frame.Additions.{Additions}
use Rattle.oer_codec_encoder.specs.declared.frame.Frame.{Frame}
use Rattle.oer_codec_encoder.specs.declared.frame.Frame.TheVariants.{OpenType, Members, Alternative}
use Rattle.oer_codec_encoder.specs.declared.frame.Preamble.{Preamble}
use Rattle.oer_codec_encoder.specs.declared.frames.SmallFrame.{SmallFrame}
use Rattle.oer_codec_encoder.specs.declared.frames.SmallFrame.TheVariants.{Alternative as SmallAlternative}
use Rattle.oer_codec_encoder.specs.declared.frames.SmallFrame.TheVariants.{OpenType as SmallOpenType}
use Rattle.oer_codec_encoder.specs.declared.frames.SmallFrame.TheVariants.{Members as SmallMembers}

-- A small frame as a frame.
abbrev pub frame_of : SmallFrame → Frame
frame_of (SmallMembers due) = Members due
frame_of SmallAlternative = Alternative
frame_of (SmallOpenType start) = OpenType start

-- All that is open: a small frame is inside the others.
abbrev pub frames_of : Option SmallFrame → List Frame → List Frame
frames_of None k = k
frames_of (Some e) k = frame_of e ∷ k

-- A preamble after its next presence bit.
abbrev pub told : Preamble → Preamble
told p = record { extensible = p.extensible; due = p.due - 1; given = p.given + 1; start = p.start }

-- The additions after the next one, whose presence was given.
abbrev pub with_next : Bool → Additions → Additions
with_next here a = record {
  due = a.due - 1;
  given = a.given + 1;
  any = a.any || here;
  bitmap = a.bitmap;
  optional = a.optional;
  start = a.start;
  root_end = a.root_end;
}

-- Why a bag with a number of elements due does not end: memory ran out, or one is due.
abbrev pub NoEnd : ℕ → EncodeError → Type 0
NoEnd due e = ¬ (e ≡ AlreadyFailed) × (¬ (e ≡ OutOfMemory) → 0 < due)

-- Why no element, or no end of the elements, comes with a number of them due: memory ran out, or something else is due.
abbrev pub NoMember : Bool → ℕ → EncodeError → Type 0
NoMember more due e = ¬ (e ≡ AlreadyFailed) × (¬ (e ≡ OutOfMemory) → more ≡ not (ltb 0 due))
