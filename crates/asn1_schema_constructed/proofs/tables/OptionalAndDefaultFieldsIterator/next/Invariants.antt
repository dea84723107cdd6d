use Rattle.std.proofs.Common.{◌≡◌, drop, filter}
use Rattle.asn1_schema_constructed.specs.Fields.{is_optional}
use Rattle.asn1_schema_constructed.proofs.tables.OptionalAndDefaultFieldsIterator.next.Given as goal

abbrev pub invariant-loop-i : goal.invariant-loop-i
invariant-loop-i l = filter is_optional (drop l.i l.fields) ≡ filter is_optional l.fn.self.rest.now
