use Rattle.std.proofs.Common.{◌++◌, ap, ◌∙◌, arith}
use Rattle.asn1_model.specs.Strings.{groups_of_seven}
use Rattle.oer_codec_writing.proofs.TagTexts.{short_tag, long_tag}
use Rattle.asn1_values_bits.proofs.Refused.{though_refused}
use Rattle.asn1_values_identifiers.proofs.Begins.{begins_behind, begins_same}
use Rattle.oer_codec_writing.proofs.tags.push_tag.Goals as goal

pub returns-then-tag-from-clause-text : goal.returns-then-tag-from-clause-text
returns-then-tag-from-clause-text c = short_tag c.args.tag c.class_bits.result c.args.octets.now.items c.push.new.self.items c.class_bits.ensures
    (omega (arith, c.if-tag-from.true, c.from.ensures)) c.in_ok-push.ensures.items

pub returns-clause-text : goal.returns-clause-text
returns-clause-text c = long_tag c.args.tag c.class_bits-2.result c.args.octets.now.items c.push-2.new.self.items c.push_groups.new.octets.items
    c.class_bits-2.ensures (omega (arith, c.if-tag-from.false, c.from.ensures)) c.in_ok-push-2.ensures.items
    (c.in_ok-push_groups.ensures.text ∙ ap (λ n. c.push-2.new.self.items ++ groups_of_seven n) c.from-2.ensures)

pub returns-in_err-push-clause-kept : goal.returns-in_err-push-clause-kept
returns-in_err-push-clause-kept c = though_refused _ (begins_same _ _ c.in_err-push.ensures.items)

pub returns-in_err-push-2-clause-kept : goal.returns-in_err-push-2-clause-kept
returns-in_err-push-2-clause-kept c = though_refused _ (begins_same _ _ c.in_err-push-2.ensures.items)

pub returns-in_err-push_groups-clause-kept : goal.returns-in_err-push_groups-clause-kept
returns-in_err-push_groups-clause-kept c = though_refused _ (begins_behind _ _ _ _ c.in_ok-push-2.ensures.items c.in_err-push_groups.ensures.kept)
