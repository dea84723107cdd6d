use Rattle.std.proofs.Common.{◌^◌, subst, arith}
use Rattle.asn1_values_integers.specs.declared.integer.IntegerKind.{IntegerKind}
use Rattle.asn1_values_integers.specs.Kinds.{IsSmallest}
use Rattle.asn1_values_integers.proofs.LowBits.{kept-many}
use Rattle.asn1_values_integers.proofs.integer.Integer.low_bits.Goals as goal

abbrev Smallest : IntegerKind → Type 0
Smallest = IsSmallest

pub last_sixteen-requires-in-Long : goal.last_sixteen-requires-in-Long
last_sixteen-requires-in-Long c =
    let m = kept-many (2 ^ 128) c.in-Long.octets.items (omega arith) (subst Smallest c.in-Long.is c.self.invariant) in
    record { many = rw c.deref.ensures.value m }
