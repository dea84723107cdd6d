use Rattle.std.proofs.Common.{◌≡◌, ◌≤◌, length, filter, take}
use Rattle.asn1_schema_constructed.specs.Fields.{is_optional}
use Rattle.asn1_schema_constructed.proofs.tables.Fields.number_of_optional_and_default_fields.Given as goal

abbrev pub invariant-loop-field : goal.invariant-loop-field
invariant-loop-field l =
    (l.count ≡ length (filter is_optional (take l.field-index l.field-items))) × (l.count ≤ l.field-index)
