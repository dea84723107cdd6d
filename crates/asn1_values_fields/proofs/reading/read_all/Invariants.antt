use Rattle.std.proofs.Common.{ℕ, ◌+◌, ◌++◌, Bool, List, drop}
use Rattle.asn1_values_fields.specs.declared.fault.FieldFaultKind.{FieldFaultKind}
use Rattle.asn1_values_fields.specs.declared.field_shape.FieldValue.{FieldValue}
use Rattle.asn1_values_fields.specs.Read.{AreValuesOf, IsFirstUnread}
use Rattle.asn1_values_fields.proofs.reading.read_all.Given as goal

abbrev pub invariant-loop-field : goal.invariant-loop-field
invariant-loop-field l = record {
  done : (vs : List FieldValue) (rest : List Bool) → AreValuesOf (drop l.field l.shapes) vs l.reader.bits rest → AreValuesOf l.shapes (l.values.items ++ vs) l.initial.reader.bits rest;
  stuck : (n : ℕ) (k : FieldFaultKind) → IsFirstUnread (drop l.field l.shapes) l.reader.bits n k → IsFirstUnread l.shapes l.initial.reader.bits (l.field + n) k;
}
