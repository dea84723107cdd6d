use Rattle.std.proofs.Common.{arith}
use Rattle.asn1_schema_laws.proofs.Joined.{raised}
use Rattle.asn1_table_walker.proofs.ListTurns.{bag_refused, bag_opened}
use Rattle.asn1_table_walker.proofs.members.begin_bag.Goals as goal

pub returns-in_err-begin_bag-clause-only : goal.returns-in_err-begin_bag-clause-only
returns-in_err-begin_bag-clause-only g c = raised _ _ _ c.from_residual.ensures.1 (λ ns i e. bag_refused ns c.args.place c.args.sizes i
    (g.D.Decoder.levels c.args.decoder.now) c.size_constraints-constraints.ensures e c.in_err-begin_bag.ensures.only)

pub returns-clause-ok : goal.returns-clause-ok
returns-clause-ok g c = λ ns i e. rw c.in_ok-keep.ensures.same
    (bag_opened g.met.D.Decoder.one_record g.met.D.Decoder.members_carried ns c.args.place c.args.sizes i _ _ _ _ _ g.met.D.Decoder.bag_held c.size_constraints-constraints.ensures e
    c.in_ok-begin_bag.ensures.call.level c.in_ok-begin_bag.ensures.ok c.in_ok-keep.ensures.kept (omega (arith, c.len-begins.ensures, c.args.tape.now.ok.0)))
