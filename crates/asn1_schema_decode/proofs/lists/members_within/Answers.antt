use Rattle.std.proofs.Common.{◌≡◌, refl, sym, ap, ◌∙◌, arith, length, Err}
use Rattle.asn1_schema_laws.proofs.Joined.{raised}
use Rattle.asn1_schema_decode.proofs.Listing.{from_next, from_further, from_stuck, from_full, from_other, from_close, from_end}
use Rattle.asn1_schema_decode.proofs.Failing.{passed_on, failed_reads}
use Rattle.asn1_schema_decode.proofs.lists.members_within.Goals as goal

pub returns-in_err-get_further-clause-only : goal.returns-in_err-get_further-clause-only
returns-in_err-get_further-clause-only g c = raised _ _ _ c.from_residual.ensures.1 (from_further g.met.D.Decoder.members_carried _ c.loop-items.invariant.0 c.in_err-get_further.ensures.only)

pub returns-then-is_full-clause-only : goal.returns-then-is_full-clause-only
returns-then-is_full-clause-only g c = from_full g.met.D.Decoder.members_carried g.met.D.Decoder.one_record _ _ _
    c.loop-items.invariant.0 (rw c.if-branch.true at c.in_ok-get_further.ensures.ok)
    (let l : c.len.result ≡ length c.loop-items.items.items = omega (arith, c.len.ensures, c.loop-items.items.ok.0) in rw l at (sym c.is_full.ensures ∙ c.if-is_full.true))

pub returns-in_err-item-clause-only : goal.returns-in_err-item-clause-only
returns-in_err-item-clause-only g c = raised _ _ _ c.from_residual-in_err-item.ensures.1
    (from_stuck g.met.D.Decoder.members_carried g.met.D.Decoder.one_record _ (g.T.Described.typed.lawful _) c.loop-items.invariant.0
    (rw c.if-branch.true at c.in_ok-get_further.ensures.ok) (rw (c.in_ok-get_further.ensures.call.level ∙ c.loop-items.invariant.1) at c.in_err-item.ensures.only))

pub loop-items-preserved : goal.loop-items-preserved
loop-items-preserved g c =
    let e = c.in_ok-get_further.ensures.call.level ∙ c.loop-items.invariant.1 in
    let law = g.met.D.Decoder.goes_on in (
      rw c.in-Ok.ensures.items (from_next g.met.D.Decoder.members_carried g.met.D.Decoder.one_record c.loop-items.invariant.0
          (rw c.if-branch.true at c.in_ok-get_further.ensures.ok) (rw e at c.in_ok-item.ensures.ok)),
      c.in_ok-item.ensures.call.level
          ∙ e,
      refl,
      λ f. absurd (law _ _ _ c.in_ok-get_further.ensures.ok (failed_reads law c.in_ok-item.ensures.ok f)),
    )

pub returns-then-not-holds-clause-only : goal.returns-then-not-holds-clause-only
returns-then-not-holds-clause-only g c =
    from_other g.met.D.Decoder.members_carried g.met.D.Decoder.one_record _ _ _ c.loop-items.invariant.0
    (rw c.if-branch.false at c.in_ok-get_further.ensures.ok) (let l : c.len-2.result ≡ length c.loop-items.items.items =
    omega (arith, c.len-2.ensures, c.loop-items.items.ok.0) in let e = c.holds.ensures in let f = c.if-not-holds.true in cc)

pub returns-in_err-end-clause-only : goal.returns-in_err-end-clause-only
returns-in_err-end-clause-only g c = raised _ _ _ c.from_residual-in_err-end.ensures.1
    (from_close g.met.D.Decoder.members_carried g.met.D.Decoder.one_record _ c.loop-items.invariant.0 (rw c.if-branch.false at c.in_ok-get_further.ensures.ok) c.in_err-end.ensures.only)

pub returns-clause-ok : goal.returns-clause-ok
returns-clause-ok g c = from_end c.loop-items.invariant.0 (rw c.if-branch.false at c.in_ok-get_further.ensures.ok) c.in_ok-end.ensures.ok

pub returns-in_err-get_further-clause-after : goal.returns-in_err-get_further-clause-after
returns-in_err-get_further-clause-after g c = passed_on _ c.from_residual.ensures.1 (λ h. c.loop-items.invariant.3 (c.in_err-get_further.ensures.call.after (ap (λ z. Err z) h)))
