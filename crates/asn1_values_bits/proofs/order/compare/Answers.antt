use Rattle.std.proofs.Common.{◌∙◌, sym, ap, arith}
use Rattle.std.specs.Ordering.{bool_cmp}
use Rattle.std.specs.Cmp.Lexicographic.{slice_cmp}
use Rattle.asn1_values_bits.specs.BitStr.{bits_of}
use Rattle.asn1_values_bits.proofs.Comparing.{front_less, front_greater, front_equal, longer}
use Rattle.asn1_values_bits.proofs.order.compare.Goals as goal

pub returns-then-x-y : goal.returns-then-x-y
returns-then-x-y c = sym (sym c.loop-right.invariant ∙ front_less (bits_of c.loop-right.left) (bits_of c.loop-right.right) c.min-few.result
    c.first_bits-x.result c.first_bits-y.result c.first_bits-x.ensures.digits c.first_bits-y.ensures.digits c.if-x-y.true c.first_bits-y.ensures.fits)

pub returns-then-y-x : goal.returns-then-y-x
returns-then-y-x c = sym (sym c.loop-right.invariant ∙ front_greater (bits_of c.loop-right.left) (bits_of c.loop-right.right) c.min-few.result
    c.first_bits-x.result c.first_bits-y.result c.first_bits-x.ensures.digits c.first_bits-y.ensures.digits c.if-y-x.true c.first_bits-x.ensures.fits)

pub loop-right-preserved : goal.loop-right-preserved
loop-right-preserved c =
    ap (λ k. slice_cmp bool_cmp k (bits_of c.split_at-in-loop-right.result.1)) c.split_at.ensures.rest
    ∙ ap (slice_cmp bool_cmp _) c.split_at-in-loop-right.ensures.rest
    ∙ front_equal (bits_of c.loop-right.left) (bits_of c.loop-right.right) c.min-few.result c.first_bits-x.result c.first_bits-y.result
    c.first_bits-x.ensures.digits c.first_bits-y.ensures.digits (omega arith)
    ∙ c.loop-right.invariant

pub returns-then-len-gt0-3 : goal.returns-then-len-gt0-3
returns-then-len-gt0-3 c = sym (sym c.loop-right.invariant ∙ longer (bits_of c.loop-right.left) (bits_of c.loop-right.right) (omega arith) (omega arith))
