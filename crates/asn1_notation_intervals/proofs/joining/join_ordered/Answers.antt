use Rattle.std.proofs.Common.{None, get_or, sym, ◌∙◌}
use Rattle.std.proofs.lemmas.List.{get_or_default}
use Rattle.asn1_notation_intervals.specs.declared.intervals.Interval.{Interval}
use Rattle.asn1_notation_intervals.proofs.JoinLaws.{joined_more, joined_same}
use Rattle.asn1_notation_intervals.proofs.joining.join_ordered.Goals.{then-has_number+in_ok-push_interval, else-has_number}
use Rattle.asn1_notation_intervals.proofs.joining.join_ordered.Goals as goal

pub loop-interval-preserved : goal.loop-interval-preserved
loop-interval-preserved c =
    let n : Interval = record { low = None; high = None } in
    let k = c.loop-interval.interval-index in
    let x = get_or c.args.ordered.now k n in
    let e = get_or_default c.args.ordered.now k n x c.loop-interval-test.true in
    elim c.if-has_number.branch [
      | then-has_number+in_ok-push_interval w ↦
          rw w.joined-is (joined_more c.args.ordered.now c.loop-interval.joined.items w.push_interval.new.joined.items k x c.requires
          c.loop-interval.invariant c.loop-interval-test.true e
          (record {
            exact = w.in_ok-push_interval.ensures.exact;
            ascending = w.in_ok-push_interval.ensures.ascending;
            begin = w.in_ok-push_interval.ensures.begin;
          }))
      | else-has_number w ↦
          rw w.joined-is (joined_same c.args.ordered.now c.loop-interval.joined.items k x c.requires c.loop-interval.invariant
          c.loop-interval-test.true e (sym c.has_number.ensures ∙ w.if-has_number.false))
    ]
