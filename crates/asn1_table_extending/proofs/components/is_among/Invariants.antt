use Rattle.std.proofs.Common.{◌≡◌, All, take}
use Rattle.asn1_table_extending.proofs.components.is_among.Given as goal

-- No tag so far is this one.
abbrev pub invariant-loop-other : goal.invariant-loop-other
invariant-loop-other l = All (λ o. ¬ (l.tag ≡ o)) (take l.other-index l.others)
