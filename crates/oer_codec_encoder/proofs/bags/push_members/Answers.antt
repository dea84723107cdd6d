use Rattle.std.proofs.Common.{[], ◌∷◌, ◌++◌, map, ap, ◌∙◌, subst, refl}
use Rattle.asn1_schema_order.specs.Entries.{octets_of, AreInOrder}
use Rattle.oer_codec_encoder.specs.Joined.{texts_joined}
use Rattle.oer_codec_encoder.proofs.BagScopes.{adds_one, adds_ordered}
use Rattle.asn1_values_bits.proofs.Refused.{though_refused}
use Rattle.asn1_values_identifiers.proofs.Begins.{begins_same}
use Rattle.oer_codec_encoder.proofs.bags.push_members.Goals as goal

pub returns-then-is_empty-clause-text : goal.returns-then-is_empty-clause-text
returns-then-is_empty-clause-text c = adds_one c.args.members c.args.last.now c.args.octets.now.items c.extend_from_slice.new.self.items
    (c.is_empty.ensures.0 c.if-is_empty.true) c.in_ok-extend_from_slice.ensures.items

pub returns-clause-text : goal.returns-clause-text
returns-clause-text c =
    let old = c.args.octets.now.items in
    let ordered = c.in_ok-ordered.ordered.items in
    adds_ordered (c.args.members ++ c.args.last.now ∷ []) ordered old c.push_each.new.octets.items (subst (λ l. AreInOrder l ordered) c.in_ok-push.ensures.ok c.in_ok-ordered.ensures)
    (c.in_ok-push_each.ensures.text ∙ ap (λ l. old ++ texts_joined (map octets_of l)) c.as_slice.ensures.value)

pub returns-in_err-extend_from_slice-clause-kept : goal.returns-in_err-extend_from_slice-clause-kept
returns-in_err-extend_from_slice-clause-kept c = though_refused _ (begins_same _ _ c.in_err-extend_from_slice.ensures.items)

pub returns-in_err-push-clause-kept : goal.returns-in_err-push-clause-kept
returns-in_err-push-clause-kept c = though_refused _ (begins_same _ _ refl)

pub returns-in_err-ordered-clause-kept : goal.returns-in_err-ordered-clause-kept
returns-in_err-ordered-clause-kept c = though_refused _ (begins_same _ _ refl)

pub returns-in_err-push_each-clause-kept : goal.returns-in_err-push_each-clause-kept
returns-in_err-push_each-clause-kept c = though_refused _ (c.in_err-push_each.ensures.kept)
