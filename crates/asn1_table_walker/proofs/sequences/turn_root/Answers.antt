use Rattle.std.proofs.Common.{◌∙◌, sym, ap, get_or, arith}
use Rattle.asn1_schema_laws.proofs.Joined.{raised}
use Rattle.asn1_table_tape.specs.Records.{records_of}
use Rattle.asn1_table_walker.proofs.Nodes.{if_err}
use Rattle.asn1_table_walker.proofs.SequenceTurns.{stuck_done, required_comes, present_comes, noting_comes, absent_goes, bit_refused}
use Rattle.asn1_table_walker.proofs.sequences.turn_root.Goals as goal

pub returns-in_default-get-clause-only : goal.returns-in_default-get-clause-only
returns-in_default-get-clause-only g c =
    let e = sym c.lists_at.ensures ∙ c.in-Some.is in
    let l = rw c.root.ensures at c.in_default-get.ensures.lookup.3 in
    if_err c.behind_root.result
    (λ x u. stuck_done g.met.D.Decoder.one_record g.met.D.Decoder.records_carried g.met.D.Decoder.values_carried g.D.Decoder.too_few_members c.args.types.now.nodes.items
    (g.D.Decoder.levels c.args.decoder.now) c.args.sequence c.args.next c.in-Some.lists e (records_of c.args.types.now.nodes.items c.args.tape.now.items) l (u c.args.types.now.nodes.items))
    c.behind_root.ensures.only

pub returns-then-is_always_there-clause-ok : goal.returns-then-is_always_there-clause-ok
returns-then-is_always_there-clause-ok g c =
    let e = sym c.lists_at.ensures ∙ c.in-Some.is in
    let l = rw c.root.ensures at c.in-Some-get.ensures.lookup.3.0 in
    let q = c.in-Some-get.ensures.lookup.3.1 c.in-Some-get.component.now ∙ ap (λ l. get_or l c.args.next c.in-Some-get.component.now) c.root.ensures in
    required_comes g.met.D.Decoder.one_record g.met.D.Decoder.records_carried g.met.D.Decoder.values_carried g.D.Decoder.too_few_members c.args.types.now.nodes.items
    (g.D.Decoder.levels c.args.decoder.now) c.args.sequence c.args.next c.in-Some.lists e c.in-Some-get.component.now l q c.args.types.now.lawful
    (sym c.is_always_there.ensures ∙ c.if-is_always_there.true)

pub returns-in_err-is_present-clause-only : goal.returns-in_err-is_present-clause-only
returns-in_err-is_present-clause-only g c =
    let e = sym c.lists_at.ensures ∙ c.in-Some.is in
    let l = rw c.root.ensures at c.in-Some-get.ensures.lookup.3.0 in
    let q = c.in-Some-get.ensures.lookup.3.1 c.in-Some-get.component.now ∙ ap (λ l. get_or l c.args.next c.in-Some-get.component.now) c.root.ensures in
    raised _ _ _ c.from_residual.ensures.1
    (bit_refused g.met.D.Decoder.one_record g.met.D.Decoder.records_carried g.met.D.Decoder.values_carried g.D.Decoder.too_few_members c.args.types.now.nodes.items
    (g.D.Decoder.levels c.args.decoder.now) c.args.sequence c.args.next c.in-Some.lists e c.in-Some-get.component.now l q (records_of c.args.types.now.nodes.items c.args.tape.now.items)
    (sym c.is_always_there.ensures ∙ c.if-is_always_there.false) c.in_err-is_present.ensures.only)

pub returns-then-not-is_present-clause-ok : goal.returns-then-not-is_present-clause-ok
returns-then-not-is_present-clause-ok g c =
    let e = sym c.lists_at.ensures ∙ c.in-Some.is in
    let l = rw c.root.ensures at c.in-Some-get.ensures.lookup.3.0 in
    let q = c.in-Some-get.ensures.lookup.3.1 c.in-Some-get.component.now ∙ ap (λ l. get_or l c.args.next c.in-Some-get.component.now) c.root.ensures in
    rw c.in_ok-keep.ensures.same
    (absent_goes g.met.D.Decoder.one_record g.met.D.Decoder.records_carried g.met.D.Decoder.values_carried g.D.Decoder.too_few_members c.args.types.now.nodes.items
    (g.D.Decoder.levels c.args.decoder.now) c.args.sequence c.args.next c.in-Some.lists e c.in-Some-get.component.now l q _ _
    (sym c.is_always_there.ensures ∙ c.if-is_always_there.false) (rw c.if-not-is_present.true at c.in_ok-is_present.ensures.ok) (rw c.if-not-is_present.true at c.in_ok-keep.ensures.kept))

pub returns-then-has_default-clause-ok : goal.returns-then-has_default-clause-ok
returns-then-has_default-clause-ok g c =
    let e = sym c.lists_at.ensures ∙ c.in-Some.is in
    let l = rw c.root.ensures at c.in-Some-get.ensures.lookup.3.0 in
    let q = c.in-Some-get.ensures.lookup.3.1 c.in-Some-get.component.now ∙ ap (λ l. get_or l c.args.next c.in-Some-get.component.now) c.root.ensures in
    rw c.in_ok-keep.ensures.same
    (noting_comes g.met.D.Decoder.one_record g.met.D.Decoder.records_carried g.met.D.Decoder.values_carried g.D.Decoder.too_few_members c.args.types.now.nodes.items
    (g.D.Decoder.levels c.args.decoder.now) c.args.sequence c.args.next c.in-Some.lists e c.in-Some-get.component.now l q _ _ _
    (sym c.is_always_there.ensures ∙ c.if-is_always_there.false) (omega arith) (rw c.if-not-is_present.false at c.in_ok-is_present.ensures.ok)
    (rw c.if-not-is_present.false at c.in_ok-keep.ensures.kept))

pub returns-clause-ok : goal.returns-clause-ok
returns-clause-ok g c =
    let e = sym c.lists_at.ensures ∙ c.in-Some.is in
    let l = rw c.root.ensures at c.in-Some-get.ensures.lookup.3.0 in
    let q = c.in-Some-get.ensures.lookup.3.1 c.in-Some-get.component.now ∙ ap (λ l. get_or l c.args.next c.in-Some-get.component.now) c.root.ensures in
    rw c.in_ok-keep.ensures.same
    (present_comes g.met.D.Decoder.one_record g.met.D.Decoder.records_carried g.met.D.Decoder.values_carried g.D.Decoder.too_few_members c.args.types.now.nodes.items
    (g.D.Decoder.levels c.args.decoder.now) c.args.sequence c.args.next c.in-Some.lists e c.in-Some-get.component.now l q _ _ c.args.types.now.lawful
    (sym c.is_always_there.ensures ∙ c.if-is_always_there.false) (sym c.has_default.ensures ∙ c.if-has_default.false) (rw c.if-not-is_present.false at c.in_ok-is_present.ensures.ok)
    (rw c.if-not-is_present.false at c.in_ok-keep.ensures.kept))
