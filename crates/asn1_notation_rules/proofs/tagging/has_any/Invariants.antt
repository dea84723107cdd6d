use Rattle.std.proofs.Common.{◌≡◌, take, false}
use Rattle.asn1_notation_rules.specs.Tags.{has_tag}
use Rattle.asn1_notation_rules.proofs.tagging.has_any.Given as goal

abbrev pub invariant-loop-is_tagged : goal.invariant-loop-is_tagged
invariant-loop-is_tagged l = has_tag (take l.is_tagged-index l.are_tagged) ≡ false
