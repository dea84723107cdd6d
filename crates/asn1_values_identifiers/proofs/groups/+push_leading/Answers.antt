use Rattle.asn1_values_identifiers.proofs.Sevens.{leading_begun, leading_pushed}
use Rattle.asn1_values_bits.proofs.Refused.{though_refused}
use Rattle.asn1_values_identifiers.proofs.Begins.{begins_behind, begins_same}
use Rattle.asn1_values_identifiers.proofs.groups.+push_leading.Goals as goal

pub returns-then-number-lt128-clause-text : goal.returns-then-number-lt128-clause-text
returns-then-number-lt128-clause-text t c = leading_begun _ _ c.args.number c.requires c.if-number-lt128.true c.in_ok-push.ensures.items

pub returns-clause-text : goal.returns-clause-text
returns-clause-text t c = leading_pushed _ _ _ c.args.number c.if-number-lt128.false c.in_ok-push_leading.ensures.text c.in_ok-push-2.ensures.items

pub returns-in_err-push-clause-kept : goal.returns-in_err-push-clause-kept
returns-in_err-push-clause-kept t c = though_refused _ (begins_same _ _ c.in_err-push.ensures.items)

pub returns-in_err-push_leading-clause-kept : goal.returns-in_err-push_leading-clause-kept
returns-in_err-push_leading-clause-kept t c = though_refused _ c.in_err-push_leading.ensures.kept

pub returns-in_err-push-2-clause-kept : goal.returns-in_err-push-2-clause-kept
returns-in_err-push-2-clause-kept t c = though_refused _ (begins_behind _ _ _ _ c.in_ok-push_leading.ensures.text (begins_same _ _ c.in_err-push-2.ensures.items))
