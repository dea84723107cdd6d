use Rattle.std.proofs.Common.{◌+◌, ◌-◌, length, drop}
use Rattle.asn1_notation_intervals.proofs.MeetLaws.{IsMeeting}
use Rattle.asn1_notation_intervals.proofs.meeting.in_both.Given as goal

abbrev pub invariant-loop-i : goal.invariant-loop-i
invariant-loop-i l = IsMeeting l.one l.other l.both.items (drop l.i l.one) (drop l.j l.other)

abbrev pub decreases-loop-i : goal.decreases-loop-i
decreases-loop-i l = (length l.one - l.i) + (length l.other - l.j)
