use Rattle.std.proofs.Common.{None, get_or, refl, sym, ◌∙◌}
use Rattle.asn1_notation_intervals.specs.declared.intervals.Interval.{Interval}
use Rattle.asn1_notation_intervals.proofs.MeetLaws.{left_step, right_step}
use Rattle.asn1_notation_intervals.proofs.meeting.in_both.Goals as goal

pub loop-i-preserved-then-ends_first : goal.loop-i-preserved-then-ends_first
loop-i-preserved-then-ends_first c =
    let n : Interval = record { low = None; high = None } in
    left_step c.args.one.now c.args.other.now c.loop-i.both.items c.push_meet.new.both.items c.loop-i.i c.loop-i.j
    (get_or c.args.one.now c.loop-i.i n) (get_or c.args.other.now c.loop-i.j n) n n c.loop-i-test.true c.if-j-other.true refl refl
    c.in_ok-push_meet.ensures c.loop-i.invariant (sym c.ends_first.ensures ∙ c.if-ends_first.true)

pub loop-i-preserved : goal.loop-i-preserved
loop-i-preserved c =
    let n : Interval = record { low = None; high = None } in
    right_step c.args.one.now c.args.other.now c.loop-i.both.items c.push_meet.new.both.items c.loop-i.i c.loop-i.j
    (get_or c.args.one.now c.loop-i.i n) (get_or c.args.other.now c.loop-i.j n) n n c.loop-i-test.true c.if-j-other.true refl refl
    c.in_ok-push_meet.ensures c.loop-i.invariant (sym c.ends_first.ensures ∙ c.if-ends_first.false)
