use Rattle.std.proofs.Common.{◌≡◌, ◌+◌, ◌-◌, ◌≤◌, ◌++◌, ℤ, true, false, None, length, get_or, ap, subst, ◌∙◌, arith}
use Rattle.std.specs.List.{range_with_len}
use Rattle.std.proofs.lemmas.List.{get_or_default}
use Rattle.asn1_notation_intervals.specs.declared.intervals.Interval.{Interval}
use Rattle.asn1_notation_intervals.specs.Sets.{is_in}
use Rattle.asn1_notation_constraints.specs.Alphabets.{is_character}
use Rattle.asn1_notation_constraints.proofs.Runs.{characters_more, ends_in_order, no_character, number_read}
use Rattle.asn1_notation_constraints.proofs.alphabets.characters.Goals as goal

pub returns-in-None-clause-refused : goal.returns-in-None-clause-refused
returns-in-None-clause-refused c =
    let n : Interval = record { low = None; high = None } in
    let s = c.intervals-interval-items.result.now in
    let k = c.loop-interval.interval-index in
    let i = get_or s k n in
    let l = c.loop-interval-test.true in
    subst (λ m. (z : ℤ) × (is_in m z ≡ true) × (is_character z ≡ false)) c.intervals-interval-items.ensures.value
    (no_character s k i l (get_or_default s k n i l) (number_read s k n c.intervals-interval-items.ensures.ascending l) c.in-None.ensures)

pub count_between-count-requires : goal.count_between-count-requires
count_between-count-requires c =
    let n : Interval = record { low = None; high = None } in
    let s = c.intervals-interval-items.result.now in
    let k = c.loop-interval.interval-index in
    ends_in_order (get_or s k n) c.in-Some.ends.0 c.in-Some.ends.1 (number_read s k n c.intervals-interval-items.ensures.ascending c.loop-interval-test.true)
    c.in-Some.ensures.0 c.in-Some.ensures.1

pub loop-interval-preserved : goal.loop-interval-preserved
loop-interval-preserved c =
    let n : Interval = record { low = None; high = None } in
    let s = c.intervals-interval-items.result.now in
    let k = c.loop-interval.interval-index in
    let i = get_or s k n in
    let l = c.loop-interval-test.true in
    let f = c.in-Some.ends.0 in
    let g = c.in-Some.ends.1 in
    let cs = c.loop-interval.characters.items in
    let up = ends_in_order i f g (number_read s k n c.intervals-interval-items.ensures.ascending l) c.in-Some.ensures.0 c.in-Some.ensures.1 in
    let pushed : c.push_run.new.characters.items ≡ cs ++ range_with_len f (g - f + 1) =
    c.in_ok-push_run-in-Some.ensures ∙ ap (λ m. cs ++ range_with_len f m) c.count_between-count.ensures in
    let fits : g - f + 1 ≤ c.args.most - length cs = omega arith in
    characters_more s k c.args.most cs c.push_run.new.characters.items i f g c.loop-interval.invariant l (get_or_default s k n i l)
    c.in-Some.ensures.0 c.in-Some.ensures.1 up pushed fits
