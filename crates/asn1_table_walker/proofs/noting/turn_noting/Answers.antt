use Rattle.std.proofs.Common.{◌∙◌, refl, sym, ap, true, false, get_or}
use Rattle.asn1_schema_laws.proofs.Joined.{raised}
use Rattle.asn1_table_walker.proofs.Nodes.{root_fine, root_tidy}
use Rattle.asn1_table_walker.proofs.NotingTurns.{noting_refused, noting_goes}
use Rattle.asn1_table_walker.proofs.noting.turn_noting.Goals as goal

pub returns-in_err-is_left_out-clause-only : goal.returns-in_err-is_left_out-clause-only
returns-in_err-is_left_out-clause-only g c =
    let ns = c.args.types.now.nodes.items in
    let e = sym c.lists_at.ensures ∙ c.in-Some.is in
    let l = rw c.root.ensures at c.in-Some-get.ensures.lookup.3.0 in
    let q = c.in-Some-get.ensures.lookup.3.1 c.in-Some-get.part.now ∙ ap (λ l. get_or l c.args.component c.in-Some-get.part.now) c.root.ensures in
    let t = (root_fine ns (g.D.Decoder.levels c.args.decoder.now) c.args.sequence c.in-Some.lists c.args.component c.in-Some-get.part.now c.args.types.now.lawful e l q).typed in
    let u = root_tidy ns (g.D.Decoder.levels c.args.decoder.now) c.args.sequence c.in-Some.lists c.args.component c.in-Some-get.part.now c.args.types.now.tidy e l q in
    raised _ _ _ c.from_residual.ensures.1
    (noting_refused g.met.D.Decoder.one_record g.met.D.Decoder.records_carried g.met.D.Decoder.values_carried g.D.Decoder.too_few_members ns
    (g.D.Decoder.levels c.args.decoder.now) c.args.sequence c.args.component c.args.from c.in-Some.lists e c.in-Some-get.part.now l q (sym c.is_always_there.ensures ∙ c.if-is_always_there.false)
    c.args.tape.now.items
    (rw (c.value_after.ensures, c.as_slice.ensures.value) at (c.in_err-is_left_out.ensures.only (g.D.Decoder.levels c.args.decoder.now) t u)))

pub returns-then-not-is_left_out-clause-ok : goal.returns-then-not-is_left_out-clause-ok
returns-then-not-is_left_out-clause-ok g c =
    let ns = c.args.types.now.nodes.items in
    let e = sym c.lists_at.ensures ∙ c.in-Some.is in
    let l = rw c.root.ensures at c.in-Some-get.ensures.lookup.3.0 in
    let q = c.in-Some-get.ensures.lookup.3.1 c.in-Some-get.part.now ∙ ap (λ l. get_or l c.args.component c.in-Some-get.part.now) c.root.ensures in
    let t = (root_fine ns (g.D.Decoder.levels c.args.decoder.now) c.args.sequence c.in-Some.lists c.args.component c.in-Some-get.part.now c.args.types.now.lawful e l q).typed in
    let u = root_tidy ns (g.D.Decoder.levels c.args.decoder.now) c.args.sequence c.in-Some.lists c.args.component c.in-Some-get.part.now c.args.types.now.tidy e l q in
    noting_goes g.met.D.Decoder.one_record g.met.D.Decoder.records_carried g.met.D.Decoder.values_carried g.D.Decoder.too_few_members ns
    (g.D.Decoder.levels c.args.decoder.now) c.args.sequence c.args.component c.args.from c.in-Some.lists e c.in-Some-get.part.now l q (sym c.is_always_there.ensures ∙ c.if-is_always_there.false)
    false c.args.tape.now.items c.args.tape.now.items
    (rw (c.value_after.ensures, c.as_slice.ensures.value, c.if-not-is_left_out.true) at (c.in_ok-is_left_out.ensures.ok (g.D.Decoder.levels c.args.decoder.now) t u)) refl

pub returns-clause-ok : goal.returns-clause-ok
returns-clause-ok g c =
    let ns = c.args.types.now.nodes.items in
    let e = sym c.lists_at.ensures ∙ c.in-Some.is in
    let l = rw c.root.ensures at c.in-Some-get.ensures.lookup.3.0 in
    let q = c.in-Some-get.ensures.lookup.3.1 c.in-Some-get.part.now ∙ ap (λ l. get_or l c.args.component c.in-Some-get.part.now) c.root.ensures in
    let t = (root_fine ns (g.D.Decoder.levels c.args.decoder.now) c.args.sequence c.in-Some.lists c.args.component c.in-Some-get.part.now c.args.types.now.lawful e l q).typed in
    let u = root_tidy ns (g.D.Decoder.levels c.args.decoder.now) c.args.sequence c.in-Some.lists c.args.component c.in-Some-get.part.now c.args.types.now.tidy e l q in
    rw c.in_ok-leave_out.ensures.same
    (noting_goes g.met.D.Decoder.one_record g.met.D.Decoder.records_carried g.met.D.Decoder.values_carried g.D.Decoder.too_few_members ns
    (g.D.Decoder.levels c.args.decoder.now) c.args.sequence c.args.component c.args.from c.in-Some.lists e c.in-Some-get.part.now l q (sym c.is_always_there.ensures ∙ c.if-is_always_there.false)
    true c.args.tape.now.items _
    (rw (c.value_after.ensures, c.as_slice.ensures.value, c.if-not-is_left_out.false) at (c.in_ok-is_left_out.ensures.ok (g.D.Decoder.levels c.args.decoder.now) t u)) c.in_ok-leave_out.ensures.cut)
