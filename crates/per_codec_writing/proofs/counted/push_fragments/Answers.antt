use Rattle.std.proofs.Common.{◌≡◌, ◌+◌, ◌-◌, length, ap, ◌∙◌, arith}
use Rattle.per_codec_writing.specs.Headings.{count_behind}
use Rattle.per_codec_writing.proofs.HeadingForms.{fragment_added, last_added}
use Rattle.per_codec_rules.specs.Variants.{is_aligned}
use Rattle.per_codec_writing.proofs.counted.push_fragments.Goals as goal

pub loop-due-preserved : goal.loop-due-preserved
loop-due-preserved g c =
    let us = g.U.Units.forms c.args.units.now in
    let at = c.loop-due in
    let next = c.in_ok-due.ensures in
    let count : c.in-Some.count ≡ length us - (at.from + at.due.units) = omega (arith, at.invariant.within, at.invariant.due.all, ap count_behind c.in-Some.is) in
    record {
      within = omega (arith, at.invariant.within, at.invariant.due.all);
      due = record { all = next.due.all ∙ count; ready = next.due.ready };
      rest = λ new r. at.invariant.rest new
          (fragment_added (is_aligned c.args.variant) us at.from at.due at.invariant.within at.invariant.due c.in_ok-due.due c.in-Some.count at.output
          c.push_range.new.output c.push_length_determinant.new.output new
          c.in-Some.is c.in_ok-push_range.ensures next.heads r);
    }

pub returns : goal.returns
returns g c =
    let at = c.loop-due in
    at.invariant.rest c.push_range-2.new.output
    (last_added (is_aligned c.args.variant) (g.U.Units.forms c.args.units.now) at.from at.due at.invariant.within at.invariant.due at.output
    c.push_range-2.new.output c.in_default.is c.in_ok-push_range-2.ensures)
