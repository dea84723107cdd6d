use Rattle.std.proofs.Common.{rules, ◌≡◌, Some, refl, sym, ◌∙◌}
use Rattle.oer_codec_encoder.specs.declared.frames.SmallFrame.TheVariants.{Members as SmallMembers}
use Rattle.oer_codec_encoder.proofs.Going.{list_small}
use Rattle.oer_codec_encoder.proofs.Scopes.{does_whether_further}
use Rattle.asn1_values_bits.proofs.Refused.{though_refused}
use Rattle.oer_codec_encoder.proofs.EarlierOctets.{keeps_members, keeps_same}
use Rattle.oer_codec_encoder.proofs.frames.Frames.encode_further.Goals as goal

pub returns-in_ok-count_member-in-Some-Members-clause-step : goal.returns-in_ok-count_member-in-Some-Members-clause-step
returns-in_ok-count_member-in-Some-Members-clause-step c =
    let f = c.in-Some-Members in
    let due = c.count_member.new.due in
    let i = c.self.inside in
    let at : i.small ≡ Some (SmallMembers f.due) = cc in
    let old = sym c.self.view_is ∙ list_small i.small f.due i.others at in
    let told : f.field-0 ≡ SmallMembers f.due = cc in
    let counted = rw told at c.in_ok-count_member-in-Some-Members.ensures in
    does_whether_further c.args.self.now i.others _ f.due due c.args.octets.now.items c.args.more old counted.0 counted.1 refl

pub returns-in_err-count_member-in-Some-Members-clause-kept : goal.returns-in_err-count_member-in-Some-Members-clause-kept
returns-in_err-count_member-in-Some-Members-clause-kept c =
    let f = c.in-Some-Members in
    let due = c.count_member.new.due in
    let i = c.self.inside in
    let at : i.small ≡ Some (SmallMembers f.due) = cc in
    let old = sym c.self.view_is ∙ list_small i.small f.due i.others at in
    though_refused _ (keeps_members c.args.self.now i.others _ f.due due c.args.octets.now.items old refl)

pub returns-in-Some-Alternative-clause-kept : goal.returns-in-Some-Alternative-clause-kept
returns-in-Some-Alternative-clause-kept c = keeps_same _ _ _ _ (search rules) refl
