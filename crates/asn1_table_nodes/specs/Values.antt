-- The values of defaults (X.680 25).
use Rattle.std.specs.Prelude.{List, [], ◌∷◌, Option, Some, None, option_map}
use Rattle.asn1_model.specs.Value.{Value, truth, nothing, number, item, bit_list, octet_list, text, arcs, members}
use Rattle.asn1_model.specs.Value.{bag, fields, chosen, values_of, Parts, end, absent, present}
use Rattle.asn1_table_nodes.specs.declared.events.Event.{Event}
use Rattle.asn1_table_nodes.specs.declared.events.Event.TheVariants as event
use Rattle.asn1_table_nodes.specs.declared.events.DefaultValue.{DefaultValue}
use Rattle.asn1_table_nodes.specs.declared.events.DefaultValue.TheFolds.{fold-DefaultValue}
use Rattle.asn1_table_nodes.specs.declared.events.DefaultValue.TheOpen.{DefaultValue-F, Simple, SequenceOf, SetOf}
use Rattle.asn1_table_nodes.specs.declared.events.DefaultValue.TheOpen.{Choice, Components}

-- The value of an event, which has no parts.
abbrev pub scalar_of : Event → Value
scalar_of (event.Truth b) = truth b
scalar_of event.Nothing = nothing
scalar_of (event.Number v) = number v
scalar_of (event.Item v) = item v
scalar_of (event.Bits bs) = bit_list bs
scalar_of (event.Octets os) = octet_list os.items
scalar_of (event.Text cs) = text cs.items
scalar_of (event.Arcs ns) = arcs ns

-- Parts, present or absent.
abbrev pub parts_of : List (Option Value) → Parts
parts_of [] = end
parts_of (None ∷ os) = absent (parts_of os)
parts_of (Some v ∷ os) = present v (parts_of os)

-- The value of a default, given those of its parts.
abbrev pub value_step : DefaultValue-F Value → Value
value_step (Simple e) = scalar_of e
value_step (SequenceOf vs) = members (values_of vs.items)
value_step (SetOf vs) = bag (values_of vs.items)
value_step (Choice c v) = chosen c.added c.place v.value
value_step (Components ps qs) = fields (parts_of ps.items) (parts_of qs.items)

-- The value of a default.
abbrev pub value_of : DefaultValue → Value
value_of = fold-DefaultValue Value value_step

-- The part of a default, if it is present.
abbrev pub part_of : Option DefaultValue → Option Value
part_of o = option_map value_of o
