use Rattle.asn1_schema_tags.specs.Tags.{tag_of}
use Rattle.asn1_schema_tags.specs.Trees.{leaves}
use Rattle.asn1_schema_tags.proofs.PlaceLaws.{found_back}
use Rattle.asn1_schema_tags.proofs.trees.TagTree.leaf_position.Goals as goal

pub returns-clause-back : goal.returns-clause-back
returns-clause-back c = found_back (leaves c.args.self.now) (tag_of c.args.tag.now) c.place.result c.place.ensures
