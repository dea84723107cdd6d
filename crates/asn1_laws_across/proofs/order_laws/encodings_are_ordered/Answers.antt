use Rattle.std.proofs.Common.{ℕ, ltb, Bool}
use Rattle.asn1_model.specs.Per.{bit_less}
use Rattle.asn1_laws_across.proofs.Orders.{lists_ordered, numbers_ordered, bits_ordered}
use Rattle.asn1_laws_across.proofs.order_laws.encodings_are_ordered.Goals as goal

pub returns : goal.returns
returns c = (lists_ordered ℕ ltb numbers_ordered, lists_ordered Bool bit_less bits_ordered)
