use Rattle.asn1_laws_values.proofs.Least.{is_one, not_above, none_below}
use Rattle.asn1_laws_values.proofs.tag_laws.smallest_is_least.Goals as goal

pub returns-clause-one : goal.returns-clause-one
returns-clause-one c = is_one

pub returns-clause-start : goal.returns-clause-start
returns-clause-start c = not_above

pub returns-clause-least : goal.returns-clause-least
returns-clause-least c = none_below
