use Rattle.asn1_values_fields.proofs.ReadBack.{read_back, not_refused}
use Rattle.asn1_values_fields.proofs.laws.written_fields_are_read.Goals as goal

pub returns-clause-same : goal.returns-clause-same
returns-clause-same c fs vs bits behind left h g e r = (read_back fs vs bits behind left h g e r).0

pub returns-clause-left : goal.returns-clause-left
returns-clause-left c fs vs bits behind left h g e r = (read_back fs vs bits behind left h g e r).1

pub returns-clause-taken : goal.returns-clause-taken
returns-clause-taken c = not_refused
