use Rattle.std.proofs.Common.{◌∙◌, sym, ap, ◌&&◌, length, map}
use Rattle.asn1_schema_tags.specs.Places.{are_listed}
use Rattle.asn1_schema_tags.specs.Tags.{tag_of}
use Rattle.asn1_schema_tags.proofs.TableSteps.{table_parts}
use Rattle.asn1_schema_tags.proofs.finding.is_place_table.Goals as goal

-- src/finding.rt:45:9
pub returns-then-not-are_listed : goal.returns-then-not-are_listed
returns-then-not-are_listed c =
    sym (table_parts c.args.places.now c.args.variants.now c.args.extended.now c.ascend.ensures c.if-not-ascend.false c.stand_there.ensures
    c.if-not-stand_there.false
    ∙ ap (λ x. x && are_listed c.args.places.now (length c.args.variants.now) (map tag_of c.args.extended.now)) (sym c.are_listed.ensures ∙ c.if-not-are_listed.true))

-- src/finding.rt:38:1
pub returns : goal.returns
returns c =
    sym (table_parts c.args.places.now c.args.variants.now c.args.extended.now c.ascend.ensures c.if-not-ascend.false c.stand_there.ensures
    c.if-not-stand_there.false
    ∙ (ap (λ x. x && are_listed c.args.places.now (length c.args.variants.now) (map tag_of c.args.extended.now)) (sym c.are_listed.ensures ∙ c.if-not-are_listed.false)
    ∙ sym c.are_listed-2.ensures))
