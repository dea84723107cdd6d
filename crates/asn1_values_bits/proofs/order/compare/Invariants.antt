use Rattle.std.proofs.Common.{◌≡◌, length}
use Rattle.std.specs.Ordering.{bool_cmp}
use Rattle.std.specs.Cmp.Lexicographic.{slice_cmp}
use Rattle.asn1_values_bits.specs.BitStr.{bits_of}
use Rattle.asn1_values_bits.proofs.order.compare.Given as goal

abbrev pub invariant-loop-right : goal.invariant-loop-right
invariant-loop-right l = slice_cmp bool_cmp (bits_of l.left) (bits_of l.right) ≡ slice_cmp bool_cmp (bits_of l.fn.a) (bits_of l.fn.b)

abbrev pub decreases-loop-right : goal.decreases-loop-right
decreases-loop-right l = length (bits_of l.left)
