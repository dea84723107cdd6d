use Rattle.std.proofs.Common.{◌≡◌, not, drop, map}
use Rattle.std.specs.List.{list_all}
use Rattle.asn1_model.specs.Lawful.{tag_same}
use Rattle.asn1_schema_tags.specs.Tags.{tag_of}
use Rattle.asn1_table_types.proofs.tags.differs_from_all.Given as goal

abbrev pub invariant-loop-other : goal.invariant-loop-other
invariant-loop-other l =
    list_all (λ y. not (tag_same (tag_of l.tag) y)) (map tag_of (drop l.other-index l.others))
    ≡ list_all (λ y. not (tag_same (tag_of l.tag) y)) (map tag_of l.others)
