use Rattle.asn1_schema_laws.proofs.Joined.{raised}
use Rattle.asn1_schema_tags.specs.Tags.{tag_of}
use Rattle.oer_codec_reading.specs.Fronts.{freedoms}
use Rattle.oer_codec_decoder.proofs.Choosing.{no_choice, no_alternative, no_entry}
use Rattle.oer_codec_decoder.proofs.choices.read_choice.Goals as goal

pub returns-in_err-tag-clause-only : goal.returns-in_err-tag-clause-only
returns-in_err-tag-clause-only c = raised _ _ _ c.from_residual.ensures.1
    (no_choice (freedoms c.args.rules) c.args.tables.now.roots c.args.tables.now.extensible c.args.tables.now.additions c.args.cursor.now _ c.in_err-tag.ensures.only)

pub returns-in_default-clause-only : goal.returns-in_default-clause-only
returns-in_default-clause-only c = no_alternative (freedoms c.args.rules) c.args.tables.now.roots c.args.tables.now.extensible
    c.args.tables.now.additions (tag_of c.in_ok-tag.tag) c.args.cursor.now c.read_alternative_tag.new.cursor _ (λ x. cc x) c.in_ok-tag.ensures.ok c.in_default.ensures.none

pub returns-in_err-enclosing-clause-only : goal.returns-in_err-enclosing-clause-only
returns-in_err-enclosing-clause-only c = raised _ _ _ c.from_residual-in_err-enclosing.ensures.1
    (no_entry (freedoms c.args.rules) c.args.tables.now.roots c.args.tables.now.extensible c.args.tables.now.additions (tag_of c.in_ok-tag.tag)
    c.in-Some.chosen.added c.in-Some.chosen.place c.args.cursor.now c.read_alternative_tag.new.cursor _ c.in_ok-tag.ensures.ok c.in-Some.ensures.some c.in_err-enclosing.ensures.only)
