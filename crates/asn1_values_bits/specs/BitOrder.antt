-- Laws of the order of lists of bits.
use Rattle.std.specs.Prelude.{◌≡◌, Bool, true, false, List, ◌++◌, length, flat_map, Some, IsTrue, refl}
use mathlib.Core.Bool.{beq}
use Rattle.std.specs.Bool.{Decides}
use Rattle.std.specs.Ordering.{bool_cmp, eq_by_cmp}
use Rattle.std.specs.Hash as fed
use Rattle.std.specs.Cmp.{IsTotalOrder, IsEquivalence, IsPartialOrder, bool_cmp_total, bool_eq_equiv}
use Rattle.std.specs.Cmp.{booleans_Decides, partial_order_from_agreeing_total}
use Rattle.std.specs.Cmp.Lexicographic.{slice_cmp, pointwise, pointwise_decides, lists_total, lists_equiv, lists_ties}
use Rattle.asn1_model.specs.Numbers.{packed}
use Rattle.asn1_values_bits.specs.Octets.{padded}

pub bits_total : IsTotalOrder (slice_cmp bool_cmp)
bits_total = lists_total bool_cmp_total

pub bits_equiv : IsEquivalence (pointwise beq)
bits_equiv = lists_equiv bool_eq_equiv

bit_ties : (x y : Bool) → beq x y ≡ eq_by_cmp bool_cmp x y
bit_ties true true = refl
bit_ties true false = refl
bit_ties false true = refl
bit_ties false false = refl

pub bits_ties : (xs ys : List Bool) → pointwise beq xs ys ≡ eq_by_cmp (slice_cmp bool_cmp) xs ys
bits_ties = lists_ties bool_cmp bit_ties

pub bits_po : IsPartialOrder (pointwise beq) (λ xs ys. Some (slice_cmp bool_cmp xs ys))
bits_po = partial_order_from_agreeing_total (slice_cmp bool_cmp) bits_total (λ x y. refl) bits_ties

pub bits_decides : (xs ys : List Bool) → Decides (pointwise beq xs ys) (xs ≡ ys)
bits_decides = pointwise_decides booleans_Decides

-- what a hasher is given: the number of bits, and their octets
abbrev pub bits_fed : List Bool → fed.HashWrites
bits_fed s = fed.usize (length s) ++ flat_map fed.u8 (packed (padded s))

pub bits_fed_alike : (xs ys : List Bool) → IsTrue (pointwise beq xs ys) → bits_fed xs ≡ bits_fed ys
bits_fed_alike = (fed.same_Alike bits_fed bits_decides).fed
