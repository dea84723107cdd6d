use Rattle.std.proofs.Common.{◌≡◌, ◌+◌, drop, map}
use Rattle.asn1_schema_tags.specs.Places.{are_listed as are_listed_from}
use Rattle.asn1_schema_tags.specs.Tags.{tag_of}
use Rattle.asn1_schema_tags.proofs.finding.are_listed.Given as goal

abbrev pub invariant-loop-index : goal.invariant-loop-index
invariant-loop-index l = are_listed_from l.places (l.first + l.index) (map tag_of (drop l.index l.tags)) ≡ are_listed_from l.places l.first (map tag_of l.tags)
