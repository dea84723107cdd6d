use Rattle.std.specs.Prelude.{max}
use Rattle.std.proofs.Common.{◌≡◌, ap, pos, ◌∙◌, ◌<ℤ◌, rules}
use Rattle.std.proofs.lemmas.Int.{to_z-of_z}
use mir.Syntax.{w128}
use mir.Val.{SFits}
use Rattle.asn1_values_natives.specs.Octets.{plain}
use Rattle.asn1_schema_constraints.proofs.WidthLaws.{signed_between}
use Rattle.asn1_schema_constraints.proofs.widths.octets_between.Goals as goal

pub returns-then-low-lt0 : goal.returns-then-low-lt0
returns-then-low-lt0 c =
    let low : c.args.low <ℤ pos 0 = search rules in
    let low_fits : SFits w128 c.args.low = search rules in
    let high_fits : SFits w128 c.args.high = search rules in
    let one : c.plain_number.result ≡ plain c.args.low = c.plain_number.ensures ∙ ap plain (to_z-of_z w128 c.args.low low_fits) in
    let other : c.plain_number-then-low-lt0.result ≡ plain c.args.high = c.plain_number-then-low-lt0.ensures ∙ ap plain (to_z-of_z w128 c.args.high high_fits) in
    c.signed_width.ensures
    ∙ signed_between c.args.low c.args.high c.max.result low
    (c.max.ensures ∙ (ap (λ m. max m c.plain_number-then-low-lt0.result) one ∙ ap (max (plain c.args.low)) other))
