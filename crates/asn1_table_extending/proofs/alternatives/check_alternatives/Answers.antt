use Rattle.std.proofs.Common.{◌≡◌, inl, inr, refl, arith}
use Rattle.asn1_table_extending.proofs.Matched.{begins_itself, begins_more, alternatives_next, alternatives_end, listed_more}
use Rattle.asn1_table_extending.proofs.Led.{adds_more}
use Rattle.asn1_table_extending.proofs.Refused.{raised, raised_none, read_index, untrue}
use Rattle.asn1_table_extending.specs.Differing.{AlternativeDiffers, AlternativesDiffer}
use Rattle.asn1_table_extending.specs.declared.differences.Difference.TheVariants.{AlternativeTag}
use Rattle.asn1_table_extending.specs.Leading.{AlternativeParts}
use Rattle.asn1_table_extending.proofs.alternatives.check_alternatives.Goals as goal

pub loop-index-preserved : goal.loop-index-preserved
loop-index-preserved c = record {
  kept = begins_more c.args.pairs.now.items c.loop-index.pairs.items c.add_pair.new.pairs.items c.loop-index.invariant.kept c.in_ok-add_pair.ensures.kept;
  added = adds_more (AlternativeParts c.args.older.now c.args.newer.now) _ (AlternativeParts c.args.older.now c.args.newer.now)
      c.args.pairs.now.items c.loop-index.pairs.items c.add_pair.new.pairs.items c.loop-index.invariant.added c.in_ok-add_pair.ensures.added (λ i j h. h)
      (λ i j h. read_index (λ x y. (x.place ≡ i) × (y.place ≡ j)) c.args.older.now c.args.newer.now c.loop-index.index _ _
      c.loop-index-test.true (omega (arith, c.loop-index-test.true, c.in_ok-check_count.ensures.enough)) h);
  matched = λ qs b m. c.loop-index.invariant.matched qs (begins_more c.loop-index.pairs.items c.add_pair.new.pairs.items qs c.in_ok-add_pair.ensures.kept b)
      (alternatives_next qs c.args.may_have_more c.args.older.now c.args.newer.now c.loop-index.index _ _
      c.loop-index-test.true (omega (arith, c.loop-index-test.true, c.in_ok-check_count.ensures.enough))
      (c.is_same_tag.ensures.0 c.if-not-is_same_tag.false) (listed_more c.add_pair.new.pairs.items qs _ _ b c.in_ok-add_pair.ensures.listed) m);
}

pub returns-clause-matches : goal.returns-clause-matches
returns-clause-matches c =
    c.loop-index.invariant.matched c.loop-index.pairs.items (begins_itself c.loop-index.pairs.items)
    (alternatives_end c.loop-index.pairs.items c.args.may_have_more c.args.older.now c.args.newer.now c.loop-index.index c.loop-index-test.false c.in_ok-check_count.ensures.as_many)

pub returns-in_err-check_count-clause-refused : goal.returns-in_err-check_count-clause-refused
returns-in_err-check_count-clause-refused c =
    raised (λ d. AlternativesDiffer d c.args.may_have_more c.args.older.now c.args.newer.now) _ _ c.from_residual.ensures.1 (inl c.in_err-check_count.ensures.refused)

pub returns-then-not-is_same_tag-clause-refused : goal.returns-then-not-is_same_tag-clause-refused
returns-then-not-is_same_tag-clause-refused c =
    inr (read_index (λ x y. AlternativeDiffers AlternativeTag x y) c.args.older.now c.args.newer.now c.loop-index.index _ _
    c.loop-index-test.true (omega (arith, c.loop-index-test.true, c.in_ok-check_count.ensures.enough))
    (refl, λ e. untrue _ c.is_same_tag.ensures.1 c.if-not-is_same_tag.true e))

pub returns-in_err-add_pair-clause-refused : goal.returns-in_err-add_pair-clause-refused
returns-in_err-add_pair-clause-refused c =
    raised_none (λ d. AlternativesDiffer d c.args.may_have_more c.args.older.now c.args.newer.now) _ c.from_residual-in_err-add_pair.ensures.1
