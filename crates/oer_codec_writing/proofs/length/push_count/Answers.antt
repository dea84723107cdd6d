use Rattle.std.proofs.Common.{pos, refl, subst, sym, ◌∙◌}
use Rattle.asn1_model.specs.Form.{written}
use Rattle.asn1_model.specs.Numbers.{digits, is_count_within}
use Rattle.asn1_model.specs.Oer
use Rattle.asn1_schema_constraints.specs.Bounds.{members_of}
use Rattle.asn1_values_bits.proofs.Refused.{though_refused}
use Rattle.asn1_values_identifiers.proofs.Begins.{begins_same}
use Rattle.oer_codec_writing.specs.Writing.{Adds}
use Rattle.oer_codec_writing.proofs.IntegerTexts.{natural_counted}
use Rattle.oer_codec_writing.proofs.ScalarTexts.{if_false, if_true}
use Rattle.oer_codec_writing.proofs.length.push_count.Goals as goal

pub returns-then-not-holds-clause-text : goal.returns-then-not-holds-clause-text
returns-then-not-holds-clause-text c = if_false (is_count_within (members_of c.args.held) c.args.count) (Oer.unsigned c.args.count) (sym c.holds.ensures ∙ c.if-not-holds.true)

pub returns-clause-text : goal.returns-clause-text
returns-clause-text c =
    let old = c.args.octets.now.items in
    let new = c.push_counted_digits.new.octets.items in
    subst (λ t. Adds t old new)
    (sym (if_true (is_count_within (members_of c.args.held) c.args.count) (Oer.unsigned c.args.count) (sym c.holds.ensures ∙ c.if-not-holds.false) ∙ natural_counted (pos c.args.count) refl))
    (subst (λ k. Adds (written (Oer.counted (digits 256 k c.args.count)) 0) old new) c.natural_len.ensures.octets c.in_ok-push_counted_digits.ensures.text)

pub returns-then-not-holds-clause-kept : goal.returns-then-not-holds-clause-kept
returns-then-not-holds-clause-kept c = begins_same _ _ refl

pub returns-in_err-push_counted_digits-clause-kept : goal.returns-in_err-push_counted_digits-clause-kept
returns-in_err-push_counted_digits-clause-kept c = though_refused _ c.in_err-push_counted_digits.ensures.kept
