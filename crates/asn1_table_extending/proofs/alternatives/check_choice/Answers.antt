use Rattle.std.proofs.Common.{false, inl, inr, refl}
use Rattle.asn1_table_extending.proofs.Matched.{alternatives_at, alternatives_listed}
use Rattle.asn1_table_extending.proofs.Led.{adds_more, alternative_parts_at}
use Rattle.asn1_table_extending.proofs.Refused.{alternatives_differ_at, raised_more, untrue}
use Rattle.asn1_table_extending.specs.Differing.{AlternativesDiffer, ChoicesDiffer}
use Rattle.asn1_table_extending.specs.Leading.{AlternativeParts, ChoiceParts}
use Rattle.asn1_table_extending.proofs.alternatives.check_choice.Goals as goal

pub returns-clause-matches : goal.returns-clause-matches
returns-clause-matches c =
    let ps = c.check_alternatives.new.pairs.items in
    let qs = c.check_alternatives-2.new.pairs.items in (
      alternatives_at qs false _ _ c.args.older.now.root.items c.args.newer.now.root.items c.as_slice.ensures.value c.as_slice-2.ensures.value
          (alternatives_listed ps qs c.in_ok-check_alternatives-2.ensures.kept false _ _ c.in_ok-check_alternatives.ensures.matches),
      c.is_same_marker.ensures.0 c.if-not-is_same_marker.false,
      alternatives_at qs c.args.older.now.is_extensible _ _ c.args.older.now.additions.items c.args.newer.now.additions.items
          c.as_slice-3.ensures.value c.as_slice-4.ensures.value c.in_ok-check_alternatives-2.ensures.matches,
    )

pub returns-in_err-check_alternatives-clause-refused : goal.returns-in_err-check_alternatives-clause-refused
returns-in_err-check_alternatives-clause-refused c =
    raised_more (λ d. AlternativesDiffer d false c.as_slice.result.now c.as_slice-2.result.now) (λ d. ChoicesDiffer d c.args.older.now c.args.newer.now) _ _
    (λ d h. inl (alternatives_differ_at d false _ _ c.args.older.now.root.items c.args.newer.now.root.items c.as_slice.ensures.value c.as_slice-2.ensures.value h))
    c.from_residual.ensures.1 c.in_err-check_alternatives.ensures.refused

pub returns-in_err-check_alternatives-2-clause-refused : goal.returns-in_err-check_alternatives-2-clause-refused
returns-in_err-check_alternatives-2-clause-refused c =
    raised_more (λ d. AlternativesDiffer d c.args.older.now.is_extensible c.as_slice-3.result.now c.as_slice-4.result.now) (λ d. ChoicesDiffer d c.args.older.now c.args.newer.now) _ _
    (λ d h. inr (inr (alternatives_differ_at d c.args.older.now.is_extensible _ _ c.args.older.now.additions.items c.args.newer.now.additions.items c.as_slice-3.ensures.value c.as_slice-4.ensures.value h)))
    c.from_residual-in_err-check_alternatives-2.ensures.1 c.in_err-check_alternatives-2.ensures.refused

pub returns-then-not-is_same_marker-clause-refused : goal.returns-then-not-is_same_marker-clause-refused
returns-then-not-is_same_marker-clause-refused c = inr (inl (refl, λ e. untrue _ c.is_same_marker.ensures.1 c.if-not-is_same_marker.true e))

pub returns-clause-added : goal.returns-clause-added
returns-clause-added c =
    adds_more (AlternativeParts c.as_slice.result.now c.as_slice-2.result.now) (AlternativeParts c.as_slice-3.result.now c.as_slice-4.result.now) (ChoiceParts c.args.older.now c.args.newer.now)
    c.args.pairs.now.items c.check_alternatives.new.pairs.items c.check_alternatives-2.new.pairs.items c.in_ok-check_alternatives.ensures.added c.in_ok-check_alternatives-2.ensures.added
    (λ i j h. inl (alternative_parts_at _ _ c.args.older.now.root.items c.args.newer.now.root.items i j c.as_slice.ensures.value c.as_slice-2.ensures.value h))
    (λ i j h. inr (alternative_parts_at _ _ c.args.older.now.additions.items c.args.newer.now.additions.items i j c.as_slice-3.ensures.value c.as_slice-4.ensures.value h))
