use Rattle.std.proofs.Common.{ap, sym, ◌∙◌}
use Rattle.std.proofs.lemmas.List.Sorted.{list_any-IsPermutation}
use Rattle.asn1_notation_intervals.specs.Ends.{is_between}
use Rattle.asn1_notation_intervals.specs.Sets.{is_in}
use Rattle.asn1_notation_intervals.proofs.joining.joined.Goals as goal

pub returns-clause-exact : goal.returns-clause-exact
returns-clause-exact c = λ z.
    c.in_ok-joined.ensures.exact z
    ∙ ap (λ l. is_in l z) c.as_slice.ensures.value
    ∙ sym (list_any-IsPermutation (λ i. is_between i z) c.in_ok-ordered.ordered.items c.sort_unstable.new.self.items c.sort_unstable.ensures.permutation)
    ∙ ap (λ l. is_in l z) c.in_ok-ordered.ensures.items
