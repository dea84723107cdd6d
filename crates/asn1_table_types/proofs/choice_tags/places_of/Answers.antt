use Rattle.std.proofs.Common.{[], map}
use Rattle.asn1_schema_tags.specs.Tags.{tag_of}
use Rattle.asn1_table_types.proofs.Inserting.{none_listed, first_part}
use Rattle.asn1_table_types.proofs.choice_tags.places_of.Goals as goal

pub returns : goal.returns
returns c =
    let roots = c.in_ok-insert_tags.ensures [] (none_listed _ c.new-places.ensures.items) (first_part (map tag_of c.args.roots.now) (map tag_of c.args.additions.now) c.requires) in
    (c.in_ok-insert_tags-2.ensures (map tag_of c.args.roots.now) roots c.requires).0
