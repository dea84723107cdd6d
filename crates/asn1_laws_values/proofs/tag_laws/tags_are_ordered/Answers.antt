use Rattle.asn1_laws_values.proofs.Order.{less_itself, less_through, less_one}
use Rattle.asn1_laws_values.proofs.tag_laws.tags_are_ordered.Goals as goal

pub returns-clause-itself : goal.returns-clause-itself
returns-clause-itself c = less_itself

pub returns-clause-through : goal.returns-clause-through
returns-clause-through c = less_through

pub returns-clause-total : goal.returns-clause-total
returns-clause-total c = less_one
