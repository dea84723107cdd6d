use Rattle.std.proofs.Common.{◌-◌}
use Rattle.asn1_schema_tags.specs.Tags.{tag_of}
use Rattle.asn1_schema_tags.proofs.Halves.{Sought}
use Rattle.asn1_schema_tags.proofs.finding.find_place.Given as goal

abbrev pub invariant-loop-low : goal.invariant-loop-low
invariant-loop-low l = Sought l.fn.probe.places (tag_of l.tag) l.probe l.low l.high

-- proposed from the loop's first test
abbrev pub decreases-loop-low : goal.decreases-loop-low
decreases-loop-low l = l.high - l.low
