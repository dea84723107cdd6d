use Rattle.asn1_schema_constraints.proofs.WidthLaws.{one, two, four, eight, more, above, width_at_most}
use Rattle.asn1_model.specs.Numbers.{octet_width}
use Rattle.asn1_schema_constraints.proofs.widths.natural_width.Goals as goal

pub returns-then-number : goal.returns-then-number
returns-then-number c = one (octet_width c.args.number) (width_at_most c.args.number 1 c.if-number.true)

pub returns-then-number-2 : goal.returns-then-number-2
returns-then-number-2 c = two (octet_width c.args.number) (above c.args.number 1 c.if-number.false) (width_at_most c.args.number 2 c.if-number-2.true)

pub returns-then-number-3 : goal.returns-then-number-3
returns-then-number-3 c = four (octet_width c.args.number) (above c.args.number 2 c.if-number-2.false) (width_at_most c.args.number 4 c.if-number-3.true)

pub returns-then-number-4 : goal.returns-then-number-4
returns-then-number-4 c = eight (octet_width c.args.number) (above c.args.number 4 c.if-number-3.false) (width_at_most c.args.number 8 c.if-number-4.true)

pub returns : goal.returns
returns c = more (octet_width c.args.number) (above c.args.number 8 c.if-number-4.false)
