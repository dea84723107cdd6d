use Rattle.std.proofs.Common.{◌≡◌, ◌<◌, List, ◌++◌, ◌+◌, ◌-◌, ◌^◌, min, drop}
use Rattle.oer_codec_decoder.specs.declared.frames.Frame.{Frame}
use Rattle.oer_codec_decoder.specs.Scopes.{owing}
use Rattle.oer_codec_decoder.proofs.frames.frames_due.Given as goal

-- what is due in the visited frames and in the others is what is due in all
abbrev pub invariant-loop-frame : goal.invariant-loop-frame
invariant-loop-frame l =
    ((fs : List Frame) → min (l.due + owing (drop l.frame-index l.frames ++ fs)) (2 ^ 64 - 1) ≡ min (owing (l.frames ++ fs)) (2 ^ 64 - 1))
    × (l.due < 2 ^ 64)
