use Rattle.std.proofs.Common.{◌≡◌, ◌++◌, ◌-◌, ◌≤◌, replicate}
use Rattle.asn1_values_bits.proofs.bit_buffer.BitBuffer.resize.Given as goal

abbrev pub invariant-loop-left : goal.invariant-loop-left
invariant-loop-left l = (l.left ≤ l.len - l.before) × (l.self ++ replicate l.left l.bit ≡ l.fn.self ++ replicate (l.len - l.before) l.bit)

abbrev pub decreases-loop-left : goal.decreases-loop-left
decreases-loop-left l = l.left
