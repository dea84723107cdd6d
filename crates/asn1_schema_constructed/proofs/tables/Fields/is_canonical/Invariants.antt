use Rattle.std.proofs.Common.{◌≡◌, option_map, drop}
use Rattle.asn1_schema_tags.specs.Tags.{tag_of}
use Rattle.asn1_schema_constructed.specs.Fields.{is_in_order}
use Rattle.asn1_schema_constructed.proofs.Orders.{is_in_order_after}
use Rattle.asn1_schema_constructed.proofs.tables.Fields.is_canonical.Given as goal

abbrev pub invariant-loop-field : goal.invariant-loop-field
invariant-loop-field l = is_in_order_after (option_map tag_of l.before) (drop l.field-index l.field-items) ≡ is_in_order l.field-items
