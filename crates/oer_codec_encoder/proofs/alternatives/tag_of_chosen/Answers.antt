use Rattle.std.proofs.Common.{map, sym, ◌∙◌}
use Rattle.asn1_schema_tags.specs.Tags.{tag_of}
use Rattle.oer_codec_encoder.proofs.AlternativeScopes.{among_roots, among_none, among_others}
use Rattle.oer_codec_encoder.proofs.alternatives.tag_of_chosen.Goals as goal

pub returns-then-not-chosen : goal.returns-then-not-chosen
returns-then-not-chosen c = c.tag_from.ensures ∙
    sym (among_roots (map tag_of c.args.roots.now) c.args.extensible (map tag_of c.args.additions.now) c.args.chosen.place c.args.chosen.added c.if-not-chosen.true)

pub returns-then-not-extensible : goal.returns-then-not-extensible
returns-then-not-extensible c =
    sym (among_none (map tag_of c.args.roots.now) c.args.extensible (map tag_of c.args.additions.now) c.args.chosen.place c.args.chosen.added c.if-not-chosen.false c.if-not-extensible.true)

pub returns : goal.returns
returns c = c.tag_from-2.ensures ∙
    sym (among_others (map tag_of c.args.roots.now) c.args.extensible (map tag_of c.args.additions.now) c.args.chosen.place c.args.chosen.added c.if-not-chosen.false c.if-not-extensible.false)
