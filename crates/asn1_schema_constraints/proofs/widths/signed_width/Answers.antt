use Rattle.std.proofs.Common.{pos}
use Rattle.asn1_model.specs.Numbers.{signed_octets}
use Rattle.asn1_values_natives.proofs.Widths.{signed_octets-le, signed_octets-above}
use Rattle.asn1_schema_constraints.proofs.WidthLaws.{one, two, four, eight, more}
use Rattle.asn1_schema_constraints.proofs.widths.signed_width.Goals as goal

pub returns-then-number : goal.returns-then-number
returns-then-number c = one (signed_octets (pos c.args.number)) (signed_octets-le (pos c.args.number) 0 c.if-number.true)

pub returns-then-number-2 : goal.returns-then-number-2
returns-then-number-2 c = two (signed_octets (pos c.args.number)) (signed_octets-above (pos c.args.number) 0 c.if-number.false) (signed_octets-le (pos c.args.number) 1 c.if-number-2.true)

pub returns-then-number-3 : goal.returns-then-number-3
returns-then-number-3 c = four (signed_octets (pos c.args.number)) (signed_octets-above (pos c.args.number) 1 c.if-number-2.false) (signed_octets-le (pos c.args.number) 3 c.if-number-3.true)

pub returns-then-number-4 : goal.returns-then-number-4
returns-then-number-4 c = eight (signed_octets (pos c.args.number)) (signed_octets-above (pos c.args.number) 3 c.if-number-3.false) (signed_octets-le (pos c.args.number) 7 c.if-number-4.true)

pub returns : goal.returns
returns c = more (signed_octets (pos c.args.number)) (signed_octets-above (pos c.args.number) 7 c.if-number-4.false)
