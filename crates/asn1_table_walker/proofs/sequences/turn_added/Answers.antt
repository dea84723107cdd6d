use Rattle.std.proofs.Common.{◌∙◌, sym, ap, get_or, arith}
use Rattle.asn1_table_tape.specs.Records.{records_of}
use Rattle.asn1_schema_laws.proofs.Joined.{raised}
use Rattle.asn1_table_walker.proofs.SequenceTurns.{addition_comes, addition_goes, addition_refused, absence_refused}
use Rattle.asn1_table_walker.proofs.sequences.turn_added.Goals as goal

pub returns-in_err-get_addition-clause-only : goal.returns-in_err-get_addition-clause-only
returns-in_err-get_addition-clause-only g c =
    let e = sym c.lists_at.ensures ∙ c.in-Some.is in
    let l = rw c.additions.ensures at c.in-Some-get.ensures.lookup.3.0 in
    let q = c.in-Some-get.ensures.lookup.3.1 c.in-Some-get.component.now ∙ ap (λ l. get_or l c.args.next c.in-Some-get.component.now) c.additions.ensures in
    raised _ _ _ c.from_residual-in_err-get_addition.ensures.1
    (addition_refused g.met.D.Decoder.one_record g.met.D.Decoder.records_carried g.met.D.Decoder.values_carried g.D.Decoder.too_few_members c.args.types.now.nodes.items
    (g.D.Decoder.levels c.args.decoder.now) c.args.sequence c.args.next c.in-Some.lists e c.in-Some-get.component.now l q (records_of c.args.types.now.nodes.items c.args.tape.now.items)
    c.in_err-get_addition.ensures.only)

pub returns-then-branch-clause-ok : goal.returns-then-branch-clause-ok
returns-then-branch-clause-ok g c =
    let e = sym c.lists_at.ensures ∙ c.in-Some.is in
    let l = rw c.additions.ensures at c.in-Some-get.ensures.lookup.3.0 in
    let q = c.in-Some-get.ensures.lookup.3.1 c.in-Some-get.component.now ∙ ap (λ l. get_or l c.args.next c.in-Some-get.component.now) c.additions.ensures in
    rw c.in_ok-keep.ensures.same
    (addition_comes g.met.D.Decoder.one_record g.met.D.Decoder.records_carried g.met.D.Decoder.values_carried g.D.Decoder.too_few_members c.args.types.now.nodes.items
    (g.D.Decoder.levels c.args.decoder.now) c.args.sequence c.args.next c.in-Some.lists e c.in-Some-get.component.now l q _ _ _ (omega arith)
    (rw c.if-branch.true at c.in_ok-get_addition.ensures.ok) c.in_ok-keep.ensures.kept)

pub returns-then-is_always_there-clause-only : goal.returns-then-is_always_there-clause-only
returns-then-is_always_there-clause-only g c =
    let e = sym c.lists_at.ensures ∙ c.in-Some.is in
    let l = rw c.additions.ensures at c.in-Some-get.ensures.lookup.3.0 in
    let q = c.in-Some-get.ensures.lookup.3.1 c.in-Some-get.component.now ∙ ap (λ l. get_or l c.args.next c.in-Some-get.component.now) c.additions.ensures in
    absence_refused g.met.D.Decoder.one_record g.met.D.Decoder.records_carried g.met.D.Decoder.values_carried g.D.Decoder.too_few_members c.args.types.now.nodes.items
    (g.D.Decoder.levels c.args.decoder.now) c.args.sequence c.args.next c.in-Some.lists e c.in-Some-get.component.now l q _ _ (records_of c.args.types.now.nodes.items c.args.tape.now.items)
    (sym c.is_always_there.ensures ∙ c.if-is_always_there.true) (rw c.if-branch.false at c.in_ok-get_addition.ensures.ok)

pub returns-clause-ok : goal.returns-clause-ok
returns-clause-ok g c =
    let e = sym c.lists_at.ensures ∙ c.in-Some.is in
    let l = rw c.additions.ensures at c.in-Some-get.ensures.lookup.3.0 in
    let q = c.in-Some-get.ensures.lookup.3.1 c.in-Some-get.component.now ∙ ap (λ l. get_or l c.args.next c.in-Some-get.component.now) c.additions.ensures in
    rw c.in_ok-keep-2.ensures.same
    (addition_goes g.met.D.Decoder.one_record g.met.D.Decoder.records_carried g.met.D.Decoder.values_carried g.D.Decoder.too_few_members c.args.types.now.nodes.items
    (g.D.Decoder.levels c.args.decoder.now) c.args.sequence c.args.next c.in-Some.lists e c.in-Some-get.component.now l q _ _
    (sym c.is_always_there.ensures ∙ c.if-is_always_there.false) (rw c.if-branch.false at c.in_ok-get_addition.ensures.ok) c.in_ok-keep-2.ensures.kept)
