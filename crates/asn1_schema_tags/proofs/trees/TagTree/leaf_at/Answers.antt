use Rattle.asn1_schema_tags.specs.Trees.{leaves}
use Rattle.asn1_schema_tags.proofs.PlaceLaws.{read_back}
use Rattle.asn1_schema_tags.proofs.trees.TagTree.leaf_at.Goals as goal

pub returns-clause-back : goal.returns-clause-back
returns-clause-back c = λ u. read_back (leaves c.args.self.now) c.args.position c.tag_at.result u c.tag_at.ensures
