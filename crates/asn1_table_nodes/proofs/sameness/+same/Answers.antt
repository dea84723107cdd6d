use Rattle.std.proofs.Common.{◌≡◌, ◌∙◌, refl, sym, ap, ◌+◌, ◌&&◌, ◌||◌, true, false, ◌⊎◌, inl, inr, Some, map, drop, length, arith}
use Rattle.std.proofs.lemmas.Bool.{eq-eqb}
use Rattle.asn1_laws_values.proofs.Counts.{count}
use Rattle.asn1_model.specs.Value.{are_all, same, same_bag, same_members, same_parts, values_of}
use Rattle.asn1_table_nodes.specs.Sameness.{is_among, is_same_part}
use Rattle.asn1_table_nodes.specs.Values.{part_of, parts_of, value_of}
use Rattle.asn1_table_nodes.proofs.Composed.{lengths_next}
use Rattle.asn1_table_nodes.proofs.EqualBags.{all_over, bag_is, bags_same, both_are, choices_same, counts_agree, fields_same, lengths_apart, lists_over, lists_same, members_next, no_bag, none_same, parts_apart, parts_next, unequal_eqb}
use Rattle.asn1_table_nodes.proofs.Values.{simple_value, sequence_value, bag_value, choice_value, parts_value, values_next, values_end, not_simple, not_sequence, not_set, not_choice, not_parts}
use Rattle.asn1_table_nodes.proofs.sameness.+same.Goals as goal
use Rattle.asn1_table_nodes.proofs.sameness.+same.Goals.{are_same_parts-in-None-first, are_same_parts-in-Some-first+in-None-second, are_same_parts-in-Some-first+in-Some-second}

pub is_same_value-returns-in_default : goal.is_same_value-returns-in_default
is_same_value-returns-in_default t c = sym (both_are _ _ _ _ (ap value_of c.in-Simple.is ∙ simple_value _) refl ∙ not_simple _ c.args.second.now c.in_default.not-Simple)

pub is_same_value-returns-in_default-second : goal.is_same_value-returns-in_default-second
is_same_value-returns-in_default-second t c = sym (both_are _ _ _ _ (ap value_of c.in-SequenceOf.is ∙ sequence_value _) refl ∙ not_sequence _ c.args.second.now c.in_default-second.not-SequenceOf)

pub is_same_value-returns-in_default-second-2 : goal.is_same_value-returns-in_default-second-2
is_same_value-returns-in_default-second-2 t c = sym (both_are _ _ _ _ (ap value_of c.in-SetOf.is ∙ bag_value _) refl ∙ not_set _ c.args.second.now c.in_default-second-2.not-SetOf)

pub is_same_value-returns-in_default-second-3 : goal.is_same_value-returns-in_default-second-3
is_same_value-returns-in_default-second-3 t c = sym (both_are _ _ _ _ (ap value_of c.in-Choice.is ∙ choice_value _ _) refl ∙ not_choice _ _ _ c.args.second.now c.in_default-second-3.not-Choice)

pub is_same_value-returns-in_default-second-4 : goal.is_same_value-returns-in_default-second-4
is_same_value-returns-in_default-second-4 t c = sym (both_are _ _ _ _ (ap value_of c.in-Components.is ∙ parts_value _ _) refl ∙ not_parts _ _ c.args.second.now c.in_default-second-4.not-Components)

pub is_same_value-returns-in-SequenceOf-second : goal.is_same_value-returns-in-SequenceOf-second
is_same_value-returns-in-SequenceOf-second t c =
    c.are_same.ensures
    ∙ ap (λ xs. same_members (values_of (map value_of xs)) (values_of (map value_of c.as_slice-in-SequenceOf-second.result.now))) c.as_slice.ensures.value
    ∙ ap (λ ys. same_members (values_of (map value_of c.in-SequenceOf.elements.items)) (values_of (map value_of ys))) c.as_slice-in-SequenceOf-second.ensures.value
    ∙ sym (both_are _ _ _ _ (ap value_of c.in-SequenceOf.is ∙ sequence_value _) (ap value_of c.in-SequenceOf-second.is ∙ sequence_value _) ∙ lists_same _ _)

pub is_same_value-returns-in-SetOf-second : goal.is_same_value-returns-in-SetOf-second
is_same_value-returns-in-SetOf-second t c =
    c.is_same_bag.ensures
    ∙ ap (λ xs. same_bag (values_of (map value_of xs)) (values_of (map value_of c.as_slice-in-SetOf-second-2.result.now))) c.as_slice-in-SetOf-second.ensures.value
    ∙ ap (λ ys. same_bag (values_of (map value_of c.in-SetOf.elements.items)) (values_of (map value_of ys))) c.as_slice-in-SetOf-second-2.ensures.value
    ∙ sym (both_are _ _ _ _ (ap value_of c.in-SetOf.is ∙ bag_value _) (ap value_of c.in-SetOf-second.is ∙ bag_value _) ∙ bags_same _ _)

pub is_same_value-returns-then-is_same_choice : goal.is_same_value-returns-then-is_same_choice
is_same_value-returns-then-is_same_choice t c =
    let x = c.in-Choice.chosen in
    let y = c.in-Choice-second.other in
    let v = c.in-Choice.value.value in
    let w = c.in-Choice-second.others.value in
    c.is_same_value.ensures ∙ ap (λ d. same (value_of d) (value_of c.deref-then-is_same_choice.result.now)) c.deref.ensures ∙ ap (λ d. same (value_of v) (value_of d)) c.deref-then-is_same_choice.ensures
    ∙ ap (λ b. b && same (value_of v) (value_of w)) (sym c.if-is_same_choice.true ∙ c.is_same_choice.ensures)
    ∙ sym (both_are _ _ _ _ (ap value_of c.in-Choice.is ∙ choice_value x c.in-Choice.value) (ap value_of c.in-Choice-second.is ∙ choice_value y c.in-Choice-second.others)
    ∙ choices_same x.added y.added x.place y.place (value_of v) (value_of w))

pub is_same_value-returns-else-is_same_choice : goal.is_same_value-returns-else-is_same_choice
is_same_value-returns-else-is_same_choice t c =
    let x = c.in-Choice.chosen in
    let y = c.in-Choice-second.other in
    let v = c.in-Choice.value.value in
    let w = c.in-Choice-second.others.value in
    c.if-is_same_choice.false
    ∙ ap (λ b. b && same (value_of v) (value_of w)) (sym c.if-is_same_choice.false ∙ c.is_same_choice.ensures)
    ∙ sym (both_are _ _ _ _ (ap value_of c.in-Choice.is ∙ choice_value x c.in-Choice.value) (ap value_of c.in-Choice-second.is ∙ choice_value y c.in-Choice-second.others)
    ∙ choices_same x.added y.added x.place y.place (value_of v) (value_of w))

pub is_same_value-returns-then-are_same_parts : goal.is_same_value-returns-then-are_same_parts
is_same_value-returns-then-are_same_parts t c =
    let r = c.in-Components.root.items in
    let a = c.in-Components.additions.items in
    let o = c.in-Components-second.others.items in
    let f = c.in-Components-second.further.items in
    c.are_same_parts-then-are_same_parts.ensures
    ∙ ap (λ xs. same_parts (parts_of (map part_of xs)) (parts_of (map part_of c.as_slice-then-are_same_parts-2.result.now))) c.as_slice-then-are_same_parts.ensures.value
    ∙ ap (λ ys. same_parts (parts_of (map part_of a)) (parts_of (map part_of ys))) c.as_slice-then-are_same_parts-2.ensures.value
    ∙ ap (λ b. b && same_parts (parts_of (map part_of a)) (parts_of (map part_of f)))
    (sym c.if-are_same_parts.true ∙ c.are_same_parts.ensures
    ∙ ap (λ xs. same_parts (parts_of (map part_of xs)) (parts_of (map part_of c.as_slice-in-Components-second-2.result.now))) c.as_slice-in-Components-second.ensures.value
    ∙ ap (λ ys. same_parts (parts_of (map part_of r)) (parts_of (map part_of ys))) c.as_slice-in-Components-second-2.ensures.value)
    ∙ sym (both_are _ _ _ _ (ap value_of c.in-Components.is ∙ parts_value _ _) (ap value_of c.in-Components-second.is ∙ parts_value _ _) ∙ fields_same _ _ _ _)

pub is_same_value-returns-else-are_same_parts : goal.is_same_value-returns-else-are_same_parts
is_same_value-returns-else-are_same_parts t c =
    let r = c.in-Components.root.items in
    let a = c.in-Components.additions.items in
    let f = c.in-Components-second.further.items in
    c.if-are_same_parts.false
    ∙ ap (λ b. b && same_parts (parts_of (map part_of a)) (parts_of (map part_of f)))
    (sym c.if-are_same_parts.false ∙ c.are_same_parts.ensures
    ∙ ap (λ xs. same_parts (parts_of (map part_of xs)) (parts_of (map part_of c.as_slice-in-Components-second-2.result.now))) c.as_slice-in-Components-second.ensures.value
    ∙ ap (λ ys. same_parts (parts_of (map part_of r)) (parts_of (map part_of ys))) c.as_slice-in-Components-second-2.ensures.value)
    ∙ sym (both_are _ _ _ _ (ap value_of c.in-Components.is ∙ parts_value _ _) (ap value_of c.in-Components-second.is ∙ parts_value _ _) ∙ fields_same _ _ _ _)

pub are_same-returns-then-firsts-seconds : goal.are_same-returns-then-firsts-seconds
are_same-returns-then-firsts-seconds t c = sym (lengths_apart c.args.firsts.now c.args.seconds.now c.if-firsts-seconds.true)

pub are_same-loop-first-init : goal.are_same-loop-first-init
are_same-loop-first-init t c =
    let i = c.into_iter-first-iterator.ensures.into_iter_gives in
    let a : c.into_iter-first-iterator.result.a.rest.now ≡ c.args.firsts.now = ap (λ z. z.a.rest.now) i ∙ ap (λ z. z.rest.now) c.zip-first-items.ensures.first ∙ c.iter.ensures.rest in
    let b : c.into_iter-first-iterator.result.b.rest.now ≡ c.args.seconds.now = ap (λ z. z.b.rest.now) i ∙ c.zip-first-items.ensures.second.0 in (
      ap (λ xs. same_members (values_of (map value_of xs)) (values_of (map value_of c.into_iter-first-iterator.result.b.rest.now))) a
          ∙ ap (λ ys. same_members (values_of (map value_of c.args.firsts.now)) (values_of (map value_of ys))) b,
      ap (λ xs. length xs) a ∙ c.if-firsts-seconds.false ∙ sym (ap (λ ys. length ys) b),
    )

pub are_same-returns-then-not-is_same_value : goal.are_same-returns-then-not-is_same_value
are_same-returns-then-not-is_same_value t c =
    let s = c.in-Some.ensures.steps in
    sym (members_next c.in-Some.first.now c.in-Some.second.now _ _ _ _ false s.0 s.1 (sym c.if-not-is_same_value.true ∙ c.is_same_value.ensures)) ∙ c.loop-first.invariant.0

pub are_same-loop-first-preserved : goal.are_same-loop-first-preserved
are_same-loop-first-preserved t c =
    let s = c.in-Some.ensures.steps in (
      sym (members_next c.in-Some.first.now c.in-Some.second.now _ _ _ _ true s.0 s.1 (sym c.if-not-is_same_value.false ∙ c.is_same_value.ensures)) ∙ c.loop-first.invariant.0,
      lengths_next _ _ _ _ _ _ s.0 s.1 c.loop-first.invariant.1,
    )

pub are_same-returns : goal.are_same-returns
are_same-returns t c = go c.in-None.ensures.steps
  where
    go : ((x : _) × ((length c.loop-first.first-iterator.a.rest.now ≡ 0) × (x ≡ c.loop-first.first-iterator.a)))
        ⊎ ((x : _) × ((length c.loop-first.first-iterator.b.rest.now ≡ 0) × (x ≡ c.loop-first.first-iterator.b)))
        → true ≡ same_members (values_of (map value_of c.args.firsts.now)) (values_of (map value_of c.args.seconds.now))
    go (inl l) = sym (lists_over _ _ c.loop-first.invariant.1 (inl l.1.0)) ∙ c.loop-first.invariant.0
    go (inr l) = sym (lists_over _ _ c.loop-first.invariant.1 (inr l.1.0)) ∙ c.loop-first.invariant.0

pub are_same_parts-returns-then-firsts-seconds : goal.are_same_parts-returns-then-firsts-seconds
are_same_parts-returns-then-firsts-seconds t c = sym (parts_apart c.args.firsts.now c.args.seconds.now c.if-firsts-seconds.true)

pub are_same_parts-loop-first-init : goal.are_same_parts-loop-first-init
are_same_parts-loop-first-init t c =
    let i = c.into_iter-first-iterator.ensures.into_iter_gives in
    let a : c.into_iter-first-iterator.result.a.rest.now ≡ c.args.firsts.now = ap (λ z. z.a.rest.now) i ∙ ap (λ z. z.rest.now) c.zip-first-items.ensures.first ∙ c.iter.ensures.rest in
    let b : c.into_iter-first-iterator.result.b.rest.now ≡ c.args.seconds.now = ap (λ z. z.b.rest.now) i ∙ c.zip-first-items.ensures.second.0 in (
      ap (λ xs. same_parts (parts_of (map part_of xs)) (parts_of (map part_of c.into_iter-first-iterator.result.b.rest.now))) a
          ∙ ap (λ ys. same_parts (parts_of (map part_of c.args.firsts.now)) (parts_of (map part_of ys))) b,
      ap (λ xs. length xs) a ∙ c.if-firsts-seconds.false ∙ sym (ap (λ ys. length ys) b),
    )

pub are_same_parts-returns-then-not-is_same : goal.are_same_parts-returns-then-not-is_same
are_same_parts-returns-then-not-is_same t c =
    let s = c.in-Some.ensures.steps in
    sym (parts_next c.in-Some.first.now c.in-Some.second.now _ _ _ _ false s.0 s.1 (elim c.match-first.branch [
      | are_same_parts-in-None-first w ↦
          sym c.if-not-is_same.true ∙ w.is_same-is ∙ none_same c.in-Some.second.now w.is_none-is_same.result w.is_none-is_same.ensures ∙ sym (ap (λ o. is_same_part (part_of o) (part_of c.in-Some.second.now)) w.in-None-first.is)
      | are_same_parts-in-Some-first+in-None-second w ↦
          sym c.if-not-is_same.true ∙ w.is_same-is
          ∙ sym (ap (λ o. is_same_part (part_of o) (part_of c.in-Some.second.now)) w.in-Some-first.is ∙ ap (λ o. is_same_part (part_of (Some w.in-Some-first.value)) (part_of o)) w.in-None-second.is)
      | are_same_parts-in-Some-first+in-Some-second w ↦
          sym c.if-not-is_same.true ∙ w.is_same-is ∙ w.is_same_value.ensures
          ∙ sym (ap (λ o. is_same_part (part_of o) (part_of c.in-Some.second.now)) w.in-Some-first.is ∙ ap (λ o. is_same_part (part_of (Some w.in-Some-first.value)) (part_of o)) w.in-Some-second.is)
    ])) ∙ c.loop-first.invariant.0

pub are_same_parts-loop-first-preserved : goal.are_same_parts-loop-first-preserved
are_same_parts-loop-first-preserved t c =
    let s = c.in-Some.ensures.steps in (
      sym (parts_next c.in-Some.first.now c.in-Some.second.now _ _ _ _ true s.0 s.1 (elim c.match-first.branch [
        | are_same_parts-in-None-first w ↦
            sym c.if-not-is_same.false ∙ w.is_same-is ∙ none_same c.in-Some.second.now w.is_none-is_same.result w.is_none-is_same.ensures ∙ sym (ap (λ o. is_same_part (part_of o) (part_of c.in-Some.second.now)) w.in-None-first.is)
        | are_same_parts-in-Some-first+in-None-second w ↦
            sym c.if-not-is_same.false ∙ w.is_same-is
            ∙ sym (ap (λ o. is_same_part (part_of o) (part_of c.in-Some.second.now)) w.in-Some-first.is ∙ ap (λ o. is_same_part (part_of (Some w.in-Some-first.value)) (part_of o)) w.in-None-second.is)
        | are_same_parts-in-Some-first+in-Some-second w ↦
            sym c.if-not-is_same.false ∙ w.is_same-is ∙ w.is_same_value.ensures
            ∙ sym (ap (λ o. is_same_part (part_of o) (part_of c.in-Some.second.now)) w.in-Some-first.is ∙ ap (λ o. is_same_part (part_of (Some w.in-Some-first.value)) (part_of o)) w.in-Some-second.is)
      ])) ∙ c.loop-first.invariant.0,
      lengths_next _ _ _ _ _ _ s.0 s.1 c.loop-first.invariant.1,
    )

pub are_same_parts-returns : goal.are_same_parts-returns
are_same_parts-returns t c = go c.in-None.ensures.steps
  where
    go : ((x : _) × ((length c.loop-first.first-iterator.a.rest.now ≡ 0) × (x ≡ c.loop-first.first-iterator.a)))
        ⊎ ((x : _) × ((length c.loop-first.first-iterator.b.rest.now ≡ 0) × (x ≡ c.loop-first.first-iterator.b)))
        → true ≡ same_parts (parts_of (map part_of c.args.firsts.now)) (parts_of (map part_of c.args.seconds.now))
    go (inl l) = sym (all_over _ _ c.loop-first.invariant.1 (inl l.1.0)) ∙ c.loop-first.invariant.0
    go (inr l) = sym (all_over _ _ c.loop-first.invariant.1 (inr l.1.0)) ∙ c.loop-first.invariant.0

pub is_same_bag-returns-then-count_same : goal.is_same_bag-returns-then-count_same
is_same_bag-returns-then-count_same t c =
    let vs = values_of (map value_of c.args.firsts.now) in
    let ws = values_of (map value_of c.args.seconds.now) in
    let ds = c.args.firsts.now in
    let i = c.loop-first.first-index in
    let d = c.first-item.result in
    let us = values_of (map value_of (drop (i + 1) ds)) in
    sym (no_bag vs ws (sym c.loop-first.invariant ∙ ap (λ xs. counts_agree xs vs ws) (values_next ds i d c.loop-first-test.true c.first-item.is)
    ∙ ap (λ b. b && counts_agree us vs ws) (unequal_eqb _ _ (λ e. c.if-count_same.true (c.count_same.ensures ∙ e ∙ sym c.count_same-in-loop-first.ensures)))))

pub is_same_bag-loop-first-preserved : goal.is_same_bag-loop-first-preserved
is_same_bag-loop-first-preserved t c =
    let vs = values_of (map value_of c.args.firsts.now) in
    let ws = values_of (map value_of c.args.seconds.now) in
    let ds = c.args.firsts.now in
    let i = c.loop-first.first-index in
    let d = c.first-item.result in
    let us = values_of (map value_of (drop (i + 1) ds)) in
    sym (ap (λ xs. counts_agree xs vs ws) (values_next ds i d c.loop-first-test.true c.first-item.is)
    ∙ ap (λ b. b && counts_agree us vs ws) (eq-eqb _ _ (sym c.count_same.ensures ∙ c.if-count_same.false ∙ c.count_same-in-loop-first.ensures))) ∙ c.loop-first.invariant

pub is_same_bag-returns : goal.is_same_bag-returns
is_same_bag-returns t c =
    let vs = values_of (map value_of c.args.firsts.now) in
    let ws = values_of (map value_of c.args.seconds.now) in
    c.are_among.ensures ∙ bag_is vs ws (sym c.loop-first.invariant ∙ ap (λ xs. counts_agree xs vs ws) (values_end c.args.firsts.now c.loop-first.first-index (omega (arith, c.loop-first-test.false))))

pub are_among-returns-then-not-is_among : goal.are_among-returns-then-not-is_among
are_among-returns-then-not-is_among t c =
    let vs = values_of (map value_of c.args.firsts.now) in
    let es = c.args.seconds.now in
    let i = c.loop-second.second-index in
    let us = values_of (map value_of (drop (i + 1) es)) in
    sym (ap (λ xs. are_all (λ w. is_among vs w) xs) (values_next es i c.second-item.result c.loop-second-test.true c.second-item.is)
    ∙ ap (λ b. b && are_all (λ w. is_among vs w) us) (sym c.is_among.ensures ∙ c.if-not-is_among.true)) ∙ c.loop-second.invariant

pub are_among-loop-second-preserved : goal.are_among-loop-second-preserved
are_among-loop-second-preserved t c =
    let vs = values_of (map value_of c.args.firsts.now) in
    let es = c.args.seconds.now in
    let i = c.loop-second.second-index in
    let us = values_of (map value_of (drop (i + 1) es)) in
    sym (ap (λ xs. are_all (λ w. is_among vs w) xs) (values_next es i c.second-item.result c.loop-second-test.true c.second-item.is)
    ∙ ap (λ b. b && are_all (λ w. is_among vs w) us) (sym c.is_among.ensures ∙ c.if-not-is_among.false)) ∙ c.loop-second.invariant

pub are_among-returns : goal.are_among-returns
are_among-returns t c =
    let vs = values_of (map value_of c.args.firsts.now) in
    sym (ap (λ xs. are_all (λ w. is_among vs w) xs) (values_end c.args.seconds.now c.loop-second.second-index (omega (arith, c.loop-second-test.false)))) ∙ c.loop-second.invariant

pub is_among-returns-then-is_same_value : goal.is_among-returns-then-is_same_value
is_among-returns-then-is_same_value t c =
    let w = value_of c.args.second.now in
    let ds = c.args.firsts.now in
    let i = c.loop-first.first-index in
    let us = values_of (map value_of (drop (i + 1) ds)) in
    sym (ap (λ xs. is_among xs w) (values_next ds i c.first-item.result c.loop-first-test.true c.first-item.is)
    ∙ ap (λ b. b || is_among us w) (sym c.is_same_value.ensures ∙ c.if-is_same_value.true)) ∙ c.loop-first.invariant

pub is_among-loop-first-preserved : goal.is_among-loop-first-preserved
is_among-loop-first-preserved t c =
    let w = value_of c.args.second.now in
    let ds = c.args.firsts.now in
    let i = c.loop-first.first-index in
    let us = values_of (map value_of (drop (i + 1) ds)) in
    sym (ap (λ xs. is_among xs w) (values_next ds i c.first-item.result c.loop-first-test.true c.first-item.is)
    ∙ ap (λ b. b || is_among us w) (sym c.is_same_value.ensures ∙ c.if-is_same_value.false)) ∙ c.loop-first.invariant

pub is_among-returns : goal.is_among-returns
is_among-returns t c =
    let w = value_of c.args.second.now in
    sym (ap (λ xs. is_among xs w) (values_end c.args.firsts.now c.loop-first.first-index (omega (arith, c.loop-first-test.false)))) ∙ c.loop-first.invariant

pub count_same-returns : goal.count_same-returns
count_same-returns t c =
    let v = value_of c.args.value.now in
    let e = ap (λ xs. count (λ x. same v x) xs) (values_end c.args.values.now c.loop-other.other-index (omega (arith, c.loop-other-test.false))) in
    omega (arith, e, c.loop-other.invariant.0)
