use Rattle.std.proofs.Common.{◌≡◌, ◌<◌, ◌∷◌, ◌++◌, [], ◌+◌, ◌-◌, ◌^◌, min, drop}
use Rattle.per_codec_decoder.specs.Scopes.{owing}
use Rattle.per_codec_decoder.proofs.frames.frames_due.Given as goal

-- what is due in the visited frames and in the others is what is due in all
abbrev pub invariant-loop-frame : goal.invariant-loop-frame
invariant-loop-frame l =
    (min (l.due + owing (drop l.frame-index l.frame-items ++ (l.innermost ∷ []))) (2 ^ 64 - 1) ≡ min (owing (l.frame-items ++ (l.innermost ∷ []))) (2 ^ 64 - 1))
    × (l.due < 2 ^ 64)
