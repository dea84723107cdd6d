use Rattle.asn1_laws_values.proofs.Once.{stand_once, stands_twice}
use Rattle.asn1_laws_values.proofs.tag_laws.distinct_tags_stand_once.Goals as goal

pub returns-clause-once : goal.returns-clause-once
returns-clause-once c = stand_once

pub returns-clause-twice : goal.returns-clause-twice
returns-clause-twice c = stands_twice
