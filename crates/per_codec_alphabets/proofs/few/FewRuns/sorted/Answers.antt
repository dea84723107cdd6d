use Rattle.std.proofs.Common.{◌≤◌, length, sym, subst, arith}
use Rattle.std.specs.List.Sorted.{IsPermutation}
use Rattle.std.proofs.lemmas.List.{length-take-le}
use Rattle.per_codec_alphabets.proofs.Listed.{front_few, front_kept}
use Rattle.per_codec_alphabets.proofs.few.FewRuns.sorted.Goals as goal

pub slice_bounds-runs-end : goal.slice_bounds-runs-end
slice_bounds-runs-end c = omega (arith, c.self.invariant.within, c.self.invariant.eight)

pub slice_bounds-sort_unstable_by_key-end : goal.slice_bounds-sort_unstable_by_key-end
slice_bounds-sort_unstable_by_key-end c =
    let within : c.self.inside.count ≤ length c.self.inside.runs = omega (arith, c.self.invariant.within, c.self.invariant.eight) in
    omega (arith, length-take-le c.self.inside.count c.self.inside.runs within)

pub invariant_of-result : goal.invariant_of-result
invariant_of-result c = front_few c.self.inside.runs c.sort_unstable_by_key.new.self c.self.inside.count c.self.invariant c.sort_unstable_by_key.ensures.permutation

pub returns : goal.returns
returns c =
    let new = c.sort_unstable_by_key.new.self in
    let moved = c.sort_unstable_by_key.ensures.permutation in
    let within : c.self.inside.count ≤ length c.self.inside.runs = omega (arith, c.self.invariant.within, c.self.invariant.eight) in
    subst (λ l. IsPermutation c.args.self l) (sym (front_kept c.self.inside.runs new c.self.inside.count within moved)) (subst (λ l. IsPermutation l new) c.self.view_is moved)
