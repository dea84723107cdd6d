use Rattle.std.proofs.Common.{All, Contains, take}
use Rattle.asn1_table_extending.proofs.components.are_among.Given as goal

abbrev pub invariant-loop-tag : goal.invariant-loop-tag
invariant-loop-tag l = All (Contains l.others) (take l.tag-index l.tags)
