use Rattle.std.proofs.Common.{map, ap, ◌∙◌}
use Rattle.std.specs.List.{list_all}
use Rattle.asn1_notation_intervals.specs.Sets.{is_in}
use Rattle.asn1_notation_constraints.specs.declared.constraints.Visible.{Visible}
use Rattle.asn1_notation_constraints.specs.Constraints.{at}
use Rattle.asn1_notation_constraints.proofs.constraints.effective.Goals as goal

pub returns-clause-numbers : goal.returns-clause-numbers
returns-clause-numbers c = λ z.
    c.in_ok-all.ensures.numbers z
    ∙ ap (λ m. list_all (at m) c.args.constraints.now)
    (ap (map (λ (p : Visible). is_in p.numbers z)) c.as_slice.ensures.value ∙ c.in_ok-parts.ensures.numbers z)
