-- The order of the fields after one that was visited.
use Rattle.std.proofs.Common.{List, ◌∷◌, Bool, Option, Some, None, map}
use Rattle.asn1_model.specs.Schema.{Tag as ModelTag}
use Rattle.asn1_model.specs.Lawful.{tag_less, are_ascending}
use Rattle.asn1_schema_constructed.specs.declared.tables.Field.{Field}
use Rattle.asn1_schema_constructed.specs.Fields.{place, is_in_order}

-- Whether the fields ascend, after this tag if there is one.
abbrev pub is_in_order_after : Option ModelTag → List Field → Bool
is_in_order_after None fs = is_in_order fs
is_in_order_after (Some t) fs = are_ascending tag_less (t ∷ map place fs)
