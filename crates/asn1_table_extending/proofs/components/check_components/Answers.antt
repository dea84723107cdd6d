use Rattle.std.proofs.Common.{◌≡◌, inl, inr, arith}
use Rattle.asn1_table_extending.proofs.Matched.{begins_more, components_next, listed_more}
use Rattle.asn1_table_extending.proofs.Led.{adds_more}
use Rattle.asn1_table_extending.proofs.Refused.{raised, raised_none, same_index}
use Rattle.asn1_table_extending.specs.Differing.{ComponentDiffers, ComponentsDiffer}
use Rattle.asn1_table_extending.specs.Leading.{ComponentParts}
use Rattle.asn1_table_extending.proofs.components.check_components.Goals as goal

pub loop-index-preserved : goal.loop-index-preserved
loop-index-preserved c = record {
  kept = begins_more c.args.pairs.now.items c.loop-index.pairs.items c.add_pair.new.pairs.items c.loop-index.invariant.kept c.in_ok-add_pair.ensures.kept;
  added = adds_more (ComponentParts c.args.older.now c.args.newer.now)
      (λ i j. (c.index-older-index.result.place ≡ i) × (c.index-newer-index.result.place ≡ j)) (ComponentParts c.args.older.now c.args.newer.now)
      c.args.pairs.now.items c.loop-index.pairs.items c.add_pair.new.pairs.items c.loop-index.invariant.added c.in_ok-add_pair.ensures.added (λ i j h. h)
      (λ i j h. same_index (λ x y. (x.place ≡ i) × (y.place ≡ j)) c.args.older.now c.args.newer.now c.loop-index.index c.index-older-index.result c.index-newer-index.result
      c.loop-index-test.true c.index-older-index.is (omega (arith, c.loop-index-test.true, c.in_ok-check_count.ensures.enough)) c.index-newer-index.is h);
  matched = λ qs b m. c.loop-index.invariant.matched qs (begins_more c.loop-index.pairs.items c.add_pair.new.pairs.items qs c.in_ok-add_pair.ensures.kept b)
      (components_next qs c.args.may_have_more c.args.older.now c.args.newer.now c.loop-index.index c.index-older-index.result c.index-newer-index.result
      c.loop-index-test.true c.index-older-index.is (omega (arith, c.loop-index-test.true, c.in_ok-check_count.ensures.enough)) c.index-newer-index.is
      c.in_ok-check_component.ensures.matches (listed_more c.add_pair.new.pairs.items qs _ _ b c.in_ok-add_pair.ensures.listed) m);
}

pub returns-in_err-check_count-clause-refused : goal.returns-in_err-check_count-clause-refused
returns-in_err-check_count-clause-refused c =
    raised (λ d. ComponentsDiffer d c.args.may_have_more c.args.older.now c.args.newer.now) _ _ c.from_residual.ensures.1 (inl c.in_err-check_count.ensures.refused)

pub returns-in_err-check_component-clause-refused : goal.returns-in_err-check_component-clause-refused
returns-in_err-check_component-clause-refused c =
    raised (λ d. ComponentsDiffer d c.args.may_have_more c.args.older.now c.args.newer.now) _ _ c.from_residual-in_err-check_component.ensures.1
    (inr (same_index (λ x y. ComponentDiffers _ x y) c.args.older.now c.args.newer.now c.loop-index.index c.index-older-index.result c.index-newer-index.result
    c.loop-index-test.true c.index-older-index.is (omega (arith, c.loop-index-test.true, c.in_ok-check_count.ensures.enough)) c.index-newer-index.is
    c.in_err-check_component.ensures.refused))

pub returns-in_err-add_pair-clause-refused : goal.returns-in_err-add_pair-clause-refused
returns-in_err-add_pair-clause-refused c =
    raised_none (λ d. ComponentsDiffer d c.args.may_have_more c.args.older.now c.args.newer.now) _ c.from_residual-in_err-add_pair.ensures.1
