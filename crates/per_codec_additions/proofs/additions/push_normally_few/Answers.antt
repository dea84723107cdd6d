use Rattle.std.proofs.Common.{◌≤◌, ◌<◌, arith}
use Rattle.per_codec_additions.proofs.AdditionFieldLists.{adds_few, adds_many}
use Rattle.per_codec_rules.specs.Variants.{is_aligned}
use Rattle.per_codec_additions.proofs.additions.push_normally_few.Goals as goal
use Rattle.per_codec_additions.proofs.additions.push_normally_few.Goals.{else-count-ge1-via-then-count-ge1+else-count-le64, else-count-ge1-via-else-count-ge1}

pub returns-then-count-le64 : goal.returns-then-count-le64
returns-then-count-le64 g c = adds_few (is_aligned c.args.variant) (g.U.Units.forms c.args.units.now) c.count-count.result c.args.output.now
    c.push_bits.new.self c.push_range.new.output c.count-count.ensures c.if-count-ge1.true c.if-count-le64.true c.in_ok-push_bits.ensures.ok c.in_ok-push_range.ensures

pub returns : goal.returns
returns g c =
    let n = c.count-count.result in
    let large : 1 ≤ n → 64 < n = elim c.else-count-ge1.branch [
      | else-count-ge1-via-then-count-ge1+else-count-le64 w ↦ λ l.
          omega (arith, w.if-count-le64.false)
      | else-count-ge1-via-else-count-ge1 w ↦ λ l. omega (arith, l, w.if-count-ge1.false)
    ] in
    adds_many (is_aligned c.args.variant) (g.U.Units.forms c.args.units.now) n c.args.output.now c.push.new.self c.push_counted.new.output
    c.count-count.ensures large c.in_ok-push.ensures.ok c.in_ok-push_counted.ensures
