use Rattle.std.proofs.Common.{◌≡◌, ◌∙◌, sym, ap, suc, ◌+◌, ◌-◌, ◌&&◌, drop, arith}
use Rattle.asn1_schema_tags.specs.Places.{ascends}
use Rattle.asn1_schema_tags.proofs.TableSteps.{ascends_at}
use Rattle.asn1_schema_tags.proofs.finding.ascend.Goals as goal

-- src/finding.rt:53:5
pub loop-next-preserved : goal.loop-next-preserved
loop-next-preserved c =
    let ahead : suc (c.loop-next.next - 1) ≡ c.loop-next.next = omega (arith, c.loop-next.invariant.0) in
    let step = ascends_at c.args.places.now (c.loop-next.next - 1) c.loop-next.next _ ahead c.loop-next-test.true in
    let same : c.loop-next.next + 1 - 1 ≡ c.loop-next.next = omega arith in (
      omega arith,
      ap (λ k. ascends (drop k c.args.places.now)) same
          ∙ (ap (λ b. b && ascends (drop c.loop-next.next c.args.places.now)) (sym c.if-not-const_less_than.false ∙ c.const_less_than.ensures)
          ∙ sym step ∙ c.loop-next.invariant.1),
    )
