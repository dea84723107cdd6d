use Rattle.std.proofs.Common.{◌∙◌, sym, ap, true, false, get_or}
use Rattle.asn1_schema_laws.proofs.Joined.{raised}
use Rattle.asn1_table_tape.specs.Records.{records_of}
use Rattle.asn1_table_walker.proofs.Nodes.{added_fine, added_tidy}
use Rattle.asn1_table_walker.proofs.NotingTurns.{end_refused, inside_refused, inside_goes}
use Rattle.asn1_table_walker.proofs.noting.turn_inside.Goals as goal

pub returns-in_err-end_addition-clause-only : goal.returns-in_err-end_addition-clause-only
returns-in_err-end_addition-clause-only g c =
    let ns = c.args.types.now.nodes.items in
    let e = sym c.lists_at.ensures ∙ c.in-Some.is in
    let l = rw c.additions.ensures at c.in-Some-get.ensures.lookup.3.0 in
    let q = c.in-Some-get.ensures.lookup.3.1 c.in-Some-get.part.now ∙ ap (λ l. get_or l c.args.component c.in-Some-get.part.now) c.additions.ensures in
    raised _ _ _ c.from_residual.ensures.1
    (end_refused g.met.D.Decoder.one_record g.met.D.Decoder.records_carried g.met.D.Decoder.values_carried g.D.Decoder.too_few_members ns
    (g.D.Decoder.levels c.args.decoder.now) c.args.sequence c.args.component c.args.from c.in-Some.lists e c.in-Some-get.part.now l q (records_of ns c.args.tape.now.items)
    c.in_err-end_addition.ensures.only)

pub returns-in_err-is_left_out-clause-only : goal.returns-in_err-is_left_out-clause-only
returns-in_err-is_left_out-clause-only g c =
    let ns = c.args.types.now.nodes.items in
    let e = sym c.lists_at.ensures ∙ c.in-Some.is in
    let l = rw c.additions.ensures at c.in-Some-get.ensures.lookup.3.0 in
    let q = c.in-Some-get.ensures.lookup.3.1 c.in-Some-get.part.now ∙ ap (λ l. get_or l c.args.component c.in-Some-get.part.now) c.additions.ensures in
    let t = (added_fine ns (g.D.Decoder.levels c.args.decoder.now) c.args.sequence c.in-Some.lists c.args.component c.in-Some-get.part.now c.args.types.now.lawful e l q).typed in
    let u = added_tidy ns (g.D.Decoder.levels c.args.decoder.now) c.args.sequence c.in-Some.lists c.args.component c.in-Some-get.part.now c.args.types.now.tidy e l q in
    raised _ _ _ c.from_residual-in_err-is_left_out.ensures.1
    (inside_refused g.met.D.Decoder.one_record g.met.D.Decoder.records_carried g.met.D.Decoder.values_carried g.D.Decoder.too_few_members ns
    (g.D.Decoder.levels c.args.decoder.now) c.args.sequence c.args.component c.args.from c.in-Some.lists e c.in-Some-get.part.now l q c.args.tape.now.items c.in_ok-end_addition.ensures.ok
    (rw (c.value_after.ensures, c.as_slice.ensures.value) at (c.in_err-is_left_out.ensures.only (g.D.Decoder.levels c.args.decoder.now) t u)))

pub returns-then-not-is_left_out-clause-ok : goal.returns-then-not-is_left_out-clause-ok
returns-then-not-is_left_out-clause-ok g c =
    let ns = c.args.types.now.nodes.items in
    let e = sym c.lists_at.ensures ∙ c.in-Some.is in
    let l = rw c.additions.ensures at c.in-Some-get.ensures.lookup.3.0 in
    let q = c.in-Some-get.ensures.lookup.3.1 c.in-Some-get.part.now ∙ ap (λ l. get_or l c.args.component c.in-Some-get.part.now) c.additions.ensures in
    let t = (added_fine ns (g.D.Decoder.levels c.args.decoder.now) c.args.sequence c.in-Some.lists c.args.component c.in-Some-get.part.now c.args.types.now.lawful e l q).typed in
    let u = added_tidy ns (g.D.Decoder.levels c.args.decoder.now) c.args.sequence c.in-Some.lists c.args.component c.in-Some-get.part.now c.args.types.now.tidy e l q in
    rw c.in_ok-keep.ensures.same
    (inside_goes g.met.D.Decoder.one_record g.met.D.Decoder.records_carried g.met.D.Decoder.values_carried g.D.Decoder.too_few_members ns
    (g.D.Decoder.levels c.args.decoder.now) c.args.sequence c.args.component c.args.from c.in-Some.lists e c.in-Some-get.part.now l q c.args.types.now.lawful false c.args.tape.now.items _
    c.in_ok-end_addition.ensures.ok
    (rw (c.value_after.ensures, c.as_slice.ensures.value, c.if-not-is_left_out.true) at (c.in_ok-is_left_out.ensures.ok (g.D.Decoder.levels c.args.decoder.now) t u)) c.in_ok-keep.ensures.kept)

pub returns-clause-ok : goal.returns-clause-ok
returns-clause-ok g c =
    let ns = c.args.types.now.nodes.items in
    let e = sym c.lists_at.ensures ∙ c.in-Some.is in
    let l = rw c.additions.ensures at c.in-Some-get.ensures.lookup.3.0 in
    let q = c.in-Some-get.ensures.lookup.3.1 c.in-Some-get.part.now ∙ ap (λ l. get_or l c.args.component c.in-Some-get.part.now) c.additions.ensures in
    let t = (added_fine ns (g.D.Decoder.levels c.args.decoder.now) c.args.sequence c.in-Some.lists c.args.component c.in-Some-get.part.now c.args.types.now.lawful e l q).typed in
    let u = added_tidy ns (g.D.Decoder.levels c.args.decoder.now) c.args.sequence c.in-Some.lists c.args.component c.in-Some-get.part.now c.args.types.now.tidy e l q in
    rw c.in_ok-leave_out.ensures.same
    (inside_goes g.met.D.Decoder.one_record g.met.D.Decoder.records_carried g.met.D.Decoder.values_carried g.D.Decoder.too_few_members ns
    (g.D.Decoder.levels c.args.decoder.now) c.args.sequence c.args.component c.args.from c.in-Some.lists e c.in-Some-get.part.now l q c.args.types.now.lawful true c.args.tape.now.items _
    c.in_ok-end_addition.ensures.ok
    (rw (c.value_after.ensures, c.as_slice.ensures.value, c.if-not-is_left_out.false) at (c.in_ok-is_left_out.ensures.ok (g.D.Decoder.levels c.args.decoder.now) t u)) c.in_ok-leave_out.ensures.cut)
