use Rattle.std.proofs.Common.{◌≡◌, ◌++◌, drop, map}
use Rattle.std.specs.List.{list_all}
use Rattle.asn1_schema_tags.specs.Places.{stands_at}
use Rattle.asn1_schema_tags.specs.Tags.{tag_of}
use Rattle.asn1_schema_tags.proofs.finding.stand_there.Given as goal

abbrev pub invariant-loop-entry : goal.invariant-loop-entry
invariant-loop-entry l =
    list_all (stands_at (map tag_of l.variants ++ map tag_of l.extended)) (drop l.entry-index l.places)
    ≡ list_all (stands_at (map tag_of l.variants ++ map tag_of l.extended)) l.places
