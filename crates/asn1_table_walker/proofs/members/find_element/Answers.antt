use Rattle.std.proofs.Common.{arith}
use Rattle.asn1_table_tape.specs.Records.{records_of}
use Rattle.asn1_schema_laws.proofs.Joined.{raised}
use Rattle.asn1_table_walker.proofs.ListTurns.{further_refused, member_refused, close_refused, member_comes, list_ends}
use Rattle.asn1_table_walker.proofs.members.find_element.Goals as goal

pub returns-in_err-get_further-clause-only : goal.returns-in_err-get_further-clause-only
returns-in_err-get_further-clause-only g c = raised _ _ _ c.from_residual.ensures.1
    (further_refused g.met.D.Decoder.one_record g.met.D.Decoder.members_carried c.args.types.now.nodes.items
    (g.D.Decoder.levels c.args.decoder.now) _ c.args.begins c.args.count c.args.members c.requires
    (records_of c.args.types.now.nodes.items c.args.tape.now.items) c.in_err-get_further.ensures.only)

pub returns-then-count-eq18446744073709551615-clause-only :
    goal.returns-then-count-eq18446744073709551615-clause-only
returns-then-count-eq18446744073709551615-clause-only g c =
    member_refused g.met.D.Decoder.one_record g.met.D.Decoder.members_carried c.args.types.now.nodes.items
    (g.D.Decoder.levels c.args.decoder.now) _ c.args.begins c.args.count c.args.members c.requires _ _
    (records_of c.args.types.now.nodes.items c.args.tape.now.items) c.if-count-eq18446744073709551615.true
    (rw c.if-branch.true at c.in_ok-get_further.ensures.ok)

pub returns-then-branch-clause-ok : goal.returns-then-branch-clause-ok
returns-then-branch-clause-ok g c = rw c.in_ok-keep.ensures.same
    (member_comes g.met.D.Decoder.one_record g.met.D.Decoder.members_carried c.args.types.now.nodes.items
    (g.D.Decoder.levels c.args.decoder.now) _ c.args.begins c.args.count c.args.members c.requires _ _
    c.args.types.now.lawful (rw c.if-branch.true at c.in_ok-get_further.ensures.ok) c.in_ok-keep.ensures.kept)

pub returns-in_err-end-clause-only : goal.returns-in_err-end-clause-only
returns-in_err-end-clause-only g c = raised _ _ _ c.from_residual-in_err-end.ensures.1
    (close_refused g.met.D.Decoder.one_record g.met.D.Decoder.members_carried c.args.types.now.nodes.items
    (g.D.Decoder.levels c.args.decoder.now) _ c.args.begins c.args.count c.args.members c.requires
    (rw c.if-branch.false at c.in_ok-get_further.ensures.ok)
    (rw c.in_ok-keep-2.ensures.same at c.in_err-end.ensures.only)
    (records_of c.args.types.now.nodes.items c.args.tape.now.items))

pub returns-clause-ok : goal.returns-clause-ok
returns-clause-ok g c = rw c.in_ok-keep-3.ensures.same
    (list_ends g.met.D.Decoder.one_record g.met.D.Decoder.members_carried c.args.types.now.nodes.items
    (g.D.Decoder.levels c.args.decoder.now) c.args.list c.args.begins c.args.count c.args.members c.requires _ _ _ _ _
    (omega (arith, c.ranges.count)) (rw c.if-branch.false at c.in_ok-get_further.ensures.ok)
    c.in_ok-keep-2.ensures.kept (rw c.in_ok-keep-2.ensures.same at c.in_ok-end.ensures.ok)
    c.in_ok-keep-3.ensures.kept c.set_count.ensures.set)
