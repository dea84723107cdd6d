use Rattle.std.proofs.Common.{map, option_map, ap, sym, ◌∙◌, refl}
use Rattle.asn1_schema_tags.specs.Tags.{tag_of}
use Rattle.oer_codec_encoder.proofs.AlternativeScopes.{does_begin_root, does_begin_added}
use Rattle.asn1_values_bits.proofs.Refused.{though_refused}
use Rattle.oer_codec_writing.proofs.Fronts.{begins_behind_text, begins_text}
use Rattle.oer_codec_encoder.proofs.EarlierOctets.{keeps_behind, keeps_same}
use Rattle.oer_codec_encoder.proofs.alternatives.begin_choice.Goals as goal

pub returns-in_ok-open_in_place-clause-step : goal.returns-in_ok-open_in_place-clause-step
returns-in_ok-open_in_place-clause-step c =
    does_begin_added (map tag_of c.args.roots.now) c.args.extensible (map tag_of c.args.additions.now) c.args.chosen.place c.args.frames.now
    c.open_in_place.new.frames c.args.octets.now.items c.push_tag.new.octets.items c.open_in_place.new.octets.items c.args.chosen.added (tag_of c.in-Some.tag)
    c.if-chosen.true (sym c.tag_of_chosen.ensures ∙ ap (option_map tag_of) c.in-Some.is) c.in_ok-push_tag.ensures.text c.in_ok-open_in_place.ensures.octets c.in_ok-open_in_place.ensures.frames

pub returns-in_ok-open_small-clause-step : goal.returns-in_ok-open_small-clause-step
returns-in_ok-open_small-clause-step c =
    does_begin_root (map tag_of c.args.roots.now) c.args.extensible (map tag_of c.args.additions.now) c.args.chosen.place c.args.frames.now
    c.open_small.new.self c.args.octets.now.items c.push_tag.new.octets.items c.args.chosen.added (tag_of c.in-Some.tag)
    c.if-chosen.false (sym c.tag_of_chosen.ensures ∙ ap (option_map tag_of) c.in-Some.is) c.in_ok-push_tag.ensures.text c.in_ok-open_small.ensures.ok

pub returns-in_default-clause-kept : goal.returns-in_default-clause-kept
returns-in_default-clause-kept c = keeps_same _ _ _ _ refl refl

pub returns-in_err-push_tag-clause-kept : goal.returns-in_err-push_tag-clause-kept
returns-in_err-push_tag-clause-kept c = though_refused _ (keeps_behind _ _ _ _ refl c.in_err-push_tag.ensures.kept)

pub returns-in_err-open_in_place-clause-kept : goal.returns-in_err-open_in_place-clause-kept
returns-in_err-open_in_place-clause-kept c = though_refused _
    (keeps_behind _ _ _ _ c.in_err-open_in_place.ensures.still (begins_behind_text _ c.args.octets.now.items c.push_tag.new.octets.items _
    c.in_ok-push_tag.ensures.text c.in_err-open_in_place.ensures.kept))

pub returns-in_err-open_small-clause-kept : goal.returns-in_err-open_small-clause-kept
returns-in_err-open_small-clause-kept c =
    though_refused _ (keeps_behind _ _ _ _ c.in_err-open_small.ensures.kept (begins_text _ c.args.octets.now.items c.push_tag.new.octets.items c.in_ok-push_tag.ensures.text))
