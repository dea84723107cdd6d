use Rattle.std.proofs.Common.{ℕ, ltb, Bool, List}
use Rattle.asn1_model.specs.Form.{written, stands_before}
use Rattle.asn1_model.specs.Per.{bit_less, BitForm, complete}
use Rattle.asn1_model.specs.Oer.{OctetForm}
use Rattle.asn1_laws_across.proofs.Orders.{lists_ordered, numbers_ordered, bits_ordered}
use Rattle.asn1_laws_across.proofs.Sorted.{puts_in_order}
use Rattle.asn1_laws_across.proofs.order_laws.members_ascend.Goals as goal

pub returns : goal.returns
returns c =
    let octets = lists_ordered ℕ ltb numbers_ordered in
    let bits = lists_ordered Bool bit_less bits_ordered in
    (puts_in_order (List ℕ) (stands_before ltb) octets OctetForm (λ x. written x 0), puts_in_order (List Bool) (stands_before bit_less) bits BitForm (λ x. written (complete x) 0))
