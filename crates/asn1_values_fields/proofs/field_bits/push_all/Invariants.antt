use Rattle.std.proofs.Common.{◌≡◌, ℕ, ◌+◌, drop, take, length}
use Rattle.asn1_values_fields.specs.declared.fault.FieldFaultKind.{FieldFaultKind}
use Rattle.asn1_values_fields.specs.Written.{bits_of_fields, appended, IsFirstUnwritten}
use Rattle.asn1_values_fields.proofs.field_bits.push_all.Given as goal

abbrev pub invariant-loop-field : goal.invariant-loop-field
invariant-loop-field l = record {
  done : appended l.buffer (bits_of_fields (drop l.field l.fields)) ≡ appended l.initial.buffer (bits_of_fields l.fields);
  kept : take (length l.initial.buffer) l.buffer ≡ l.initial.buffer;
  stuck : (n : ℕ) (k : FieldFaultKind) → IsFirstUnwritten (drop l.field l.fields) n k → IsFirstUnwritten l.fields (l.field + n) k;
}
