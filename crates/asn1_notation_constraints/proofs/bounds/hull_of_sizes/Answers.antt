use Rattle.std.proofs.Common.{pos, ◌&&◌, ap, ◌∙◌}
use Rattle.std.specs.Prelude.{int_le}
use Rattle.asn1_notation_intervals.specs.Sets.{is_in}
use Rattle.asn1_notation_constraints.proofs.Sizes.{open_end, size_match}
use Rattle.asn1_notation_constraints.proofs.bounds.hull_of_sizes.Goals as goal

pub returns : goal.returns
returns c =
    let s = c.args.numbers.now in
    size_match s c.in_ok-sizes-2.sizes
    (λ z. c.in_ok-sizes-2.ensures z ∙ ap (λ b. is_in s z && b) (c.in_ok-sizes.ensures z ∙ open_end (int_le (pos 0) z)))
    c.hull.result c.hull.ensures.hull
