use Rattle.std.proofs.Common.{arith}
use Rattle.per_codec_writing.proofs.Each.{next_added, at_end}
use Rattle.per_codec_writing.proofs.members.push_each.Goals as goal

pub loop-member-preserved : goal.loop-member-preserved
loop-member-preserved c = λ new r. c.loop-member.invariant new
    (next_added c.args.members.now c.loop-member.member-index c.member-item.result c.loop-member.output c.append_field_list.new.self new
    c.loop-member-test.true c.member-item.is c.in_ok-append_field_list.ensures r)

pub returns : goal.returns
returns c = c.loop-member.invariant c.loop-member.output (at_end c.args.members.now c.loop-member.member-index c.loop-member.output (omega (arith, c.loop-member-test.false)))
