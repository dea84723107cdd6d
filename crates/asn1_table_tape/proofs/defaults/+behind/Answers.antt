use Rattle.std.proofs.Common.{◌≡◌, ◌∙◌, sym, ap, ℕ, ◌+◌, ◌-◌, ◌<◌, map, drop, length, false, Bool, cond, ◌&&◌, is_some, List, Option, Some, None, Vec, Global, arith}
use Rattle.std.specs.Prelude.{option_and_then, option_copied}
use Rattle.std.specs.Option.{option_map_or, option_or}
use Rattle.std.proofs.lemmas.Bool.{eq-eqb}
use Rattle.asn1_laws_values.proofs.Counts.{one_if}
use Rattle.asn1_model.specs.Lawful.{member_count}
use Rattle.asn1_model.specs.Value.{values_of}
use Rattle.asn1_table_nodes.specs.Values.{value_of, part_of, parts_of}
use Rattle.asn1_table_nodes.proofs.EqualBags.{unequal_eqb}
use Rattle.asn1_table_nodes.proofs.Values.{simple_value, sequence_value, bag_value, choice_value, parts_value}
use Rattle.asn1_table_nodes.specs.declared.events.DefaultValue.{DefaultValue}
use Rattle.asn1_table_nodes.specs.declared.events.DefaultValue.TheVariants.{Components}
use Rattle.asn1_table_tape.specs.declared.tape.Event.{Event}
use Rattle.asn1_table_tape.specs.declared.defaults.Mark.TheVariants.{Parts, Additions, Closes}
use Rattle.asn1_table_tape.specs.Values.{has_mark, behind_added, behind_any, behind_bag, behind_each, behind_event, behind_members, behind_nth, behind_root, behind_value, count_on, counts_on, past}
use Rattle.asn1_table_tape.proofs.Behind.{scalar_behind, sequence_behind, bag_behind, choice_behind, fields_behind, members_next, members_end, any_next, any_end, root_next, root_end, root_one, root_step}
use Rattle.asn1_table_tape.proofs.Behind.{at_most_one, added_next, added_end, added_one, added_step, nth_here, nth_later, nth_over, counted, at_index, counts_next, counts_over, alike_at, each_step, each_end, count_step, count_end, some_copied}
use Rattle.asn1_table_tape.proofs.defaults.+behind.Goals as goal
use Rattle.asn1_table_tape.proofs.defaults.+behind.Goals.{behind_root-in-None, behind_root-in-Some, behind_added-in-None, behind_added-in-Some, count_on-then-is_some, count_on-else-is_some}

pub behind-returns-in-Simple : goal.behind-returns-in-Simple
behind-returns-in-Simple t c =
    let es = c.args.value.now in
    c.behind_scalar.ensures
    ∙ sym (ap (λ d. behind_value (value_of d) es) c.in-Simple.is ∙ ap (λ v. behind_value v es) (simple_value c.in-Simple.simple) ∙ scalar_behind c.in-Simple.simple es)

pub behind-returns-in-None : goal.behind-returns-in-None
behind-returns-in-None t c =
    let es = c.args.value.now in
    sym (ap (λ d. behind_value (value_of d) es) c.in-SequenceOf.is ∙ ap (λ v. behind_value v es) (sequence_value c.in-SequenceOf.elements)
    ∙ sequence_behind _ es ∙ ap (λ o. option_and_then (λ rest. behind_members (values_of (map value_of c.in-SequenceOf.elements.items)) rest) o) (sym c.behind_mark.ensures ∙ ap option_copied c.in-None.is))

pub behind-returns-in-Some : goal.behind-returns-in-Some
behind-returns-in-Some t c =
    let es = c.args.value.now in
    c.behind_elements.ensures ∙ ap (λ ds. behind_members (values_of (map value_of ds)) c.in-Some.rest.now) c.as_slice.ensures.value
    ∙ sym (ap (λ d. behind_value (value_of d) es) c.in-SequenceOf.is ∙ ap (λ v. behind_value v es) (sequence_value c.in-SequenceOf.elements)
    ∙ sequence_behind _ es ∙ ap (λ o. option_and_then (λ rest. behind_members (values_of (map value_of c.in-SequenceOf.elements.items)) rest) o) (sym c.behind_mark.ensures ∙ ap option_copied c.in-Some.is))

pub behind-returns-in-None-behind_mark : goal.behind-returns-in-None-behind_mark
behind-returns-in-None-behind_mark t c =
    let es = c.args.value.now in
    sym (ap (λ d. behind_value (value_of d) es) c.in-SetOf.is ∙ ap (λ v. behind_value v es) (bag_value c.in-SetOf.elements)
    ∙ bag_behind _ es ∙ ap (λ o. option_and_then (λ rest. behind_bag (values_of (map value_of c.in-SetOf.elements.items)) rest) o) (sym c.behind_mark-in-SetOf.ensures ∙ ap option_copied c.in-None-behind_mark.is))

pub behind-returns-in-Some-behind_mark : goal.behind-returns-in-Some-behind_mark
behind-returns-in-Some-behind_mark t c =
    let es = c.args.value.now in
    c.behind_bag.ensures ∙ ap (λ ds. behind_bag (values_of (map value_of ds)) c.in-Some-behind_mark.rest.now) c.as_slice-in-Some-behind_mark.ensures.value
    ∙ sym (ap (λ d. behind_value (value_of d) es) c.in-SetOf.is ∙ ap (λ v. behind_value v es) (bag_value c.in-SetOf.elements)
    ∙ bag_behind _ es ∙ ap (λ o. option_and_then (λ rest. behind_bag (values_of (map value_of c.in-SetOf.elements.items)) rest) o) (sym c.behind_mark-in-SetOf.ensures ∙ ap option_copied c.in-Some-behind_mark.is))

pub behind-returns-in-None-behind_mark-2 : goal.behind-returns-in-None-behind_mark-2
behind-returns-in-None-behind_mark-2 t c =
    let es = c.args.value.now in
    let p = c.in-Choice.chosen in
    sym (ap (λ d. behind_value (value_of d) es) c.in-Choice.is ∙ ap (λ v. behind_value v es) (choice_value p c.in-Choice.inner) ∙ choice_behind p (value_of c.in-Choice.inner.value) es
    ∙ ap (λ o. option_and_then (λ rest. option_and_then (λ others. behind_event (has_mark Closes) others) (behind_value (value_of c.in-Choice.inner.value) rest)) o)
    (sym c.behind_mark-in-Choice.ensures ∙ ap option_copied c.in-None-behind_mark-2.is))

pub behind-returns-in-Some-behind_mark-2 : goal.behind-returns-in-Some-behind_mark-2
behind-returns-in-Some-behind_mark-2 t c =
    let es = c.args.value.now in
    let p = c.in-Choice.chosen in
    c.behind_chosen.ensures
    ∙ ap (λ d. option_and_then (λ others. behind_event (has_mark Closes) others) (behind_value (value_of d) c.in-Some-behind_mark-2.rest.now)) c.deref.ensures
    ∙ sym (ap (λ d. behind_value (value_of d) es) c.in-Choice.is ∙ ap (λ v. behind_value v es) (choice_value p c.in-Choice.inner) ∙ choice_behind p (value_of c.in-Choice.inner.value) es
    ∙ ap (λ o. option_and_then (λ rest. option_and_then (λ others. behind_event (has_mark Closes) others) (behind_value (value_of c.in-Choice.inner.value) rest)) o)
    (sym c.behind_mark-in-Choice.ensures ∙ ap option_copied c.in-Some-behind_mark-2.is))

abbrev after_root : Vec (Option DefaultValue) Global → Option (List Event) → Option (List Event)
after_root a o = option_and_then (λ others. behind_added (parts_of (map part_of a.items)) (past (has_mark Additions) others)) o

parts_behind : (r a : Vec (Option DefaultValue) Global) (d : DefaultValue) (es : List Event) (o : Option (List Event)) → d ≡ Components r a → behind_event (has_mark Parts) es ≡ o →
    behind_value (value_of d) es ≡ option_and_then (λ rest. after_root a (behind_root (parts_of (map part_of r.items)) rest)) o
parts_behind r a d es o e q =
    ap (λ d. behind_value (value_of d) es) e ∙ ap (λ v. behind_value v es) (parts_value r a) ∙ fields_behind _ _ es
    ∙ ap (λ o. option_and_then (λ rest. after_root a (behind_root (parts_of (map part_of r.items)) rest)) o) q

pub behind-returns-in-None-behind_mark-3 : goal.behind-returns-in-None-behind_mark-3
behind-returns-in-None-behind_mark-3 t c =
    sym (parts_behind c.in-Components.root c.in-Components.additions c.args.default.now c.args.value.now None c.in-Components.is (sym c.behind_mark-in-Components.ensures ∙ ap option_copied c.in-None-behind_mark-3.is))

pub behind-returns-in-None-behind_root : goal.behind-returns-in-None-behind_root
behind-returns-in-None-behind_root t c =
    let r = c.in-Components.root in
    let a = c.in-Components.additions in
    let rest = c.in-Some-behind_mark-3.rest.now in
    sym (parts_behind r a c.args.default.now c.args.value.now (Some rest) c.in-Components.is (sym c.behind_mark-in-Components.ensures ∙ ap option_copied c.in-Some-behind_mark-3.is)
    ∙ ap (λ o. after_root a o) (ap (λ ps. behind_root (parts_of (map part_of ps)) rest) (sym c.as_slice-in-Some-behind_mark-3.ensures.value) ∙ sym c.behind_root.ensures ∙ ap option_copied c.in-None-behind_root.is))

pub behind-returns-in-Some-behind_root : goal.behind-returns-in-Some-behind_root
behind-returns-in-Some-behind_root t c =
    let r = c.in-Components.root in
    let a = c.in-Components.additions in
    let rest = c.in-Some-behind_mark-3.rest.now in
    c.behind_added.ensures ∙ ap (λ ps. behind_added (parts_of (map part_of ps)) c.past_mark.result.now) c.as_slice-in-Some-behind_root.ensures.value
    ∙ ap (λ es. behind_added (parts_of (map part_of a.items)) es) c.past_mark.ensures
    ∙ sym (parts_behind r a c.args.default.now c.args.value.now (Some rest) c.in-Components.is (sym c.behind_mark-in-Components.ensures ∙ ap option_copied c.in-Some-behind_mark-3.is)
    ∙ ap (λ o. after_root a o) (ap (λ ps. behind_root (parts_of (map part_of ps)) rest) (sym c.as_slice-in-Some-behind_mark-3.ensures.value) ∙ sym c.behind_root.ensures ∙ ap option_copied c.in-Some-behind_root.is))

pub behind_chosen-returns-in-None : goal.behind_chosen-returns-in-None
behind_chosen-returns-in-None t c = sym (ap (λ o. option_and_then (λ others. behind_event (has_mark Closes) others) o) (sym c.behind.ensures ∙ ap option_copied c.in-None.is))

pub behind_chosen-returns-in-Some : goal.behind_chosen-returns-in-Some
behind_chosen-returns-in-Some t c = c.behind_mark.ensures ∙ sym (ap (λ o. option_and_then (λ others. behind_event (has_mark Closes) others) o) (sym c.behind.ensures ∙ ap option_copied c.in-Some.is))

pub behind_root-returns-in-None-others : goal.behind_root-returns-in-None-others
behind_root-returns-in-None-others t c =
    let ps = c.args.parts.now in
    let i = c.loop-part.part-index in
    let es = c.loop-part.rest.now in
    let others = parts_of (map part_of (drop (i + 1) ps)) in
    sym (root_next ps i c.part-item.result es c.loop-part-test.true c.part-item.is ∙ root_step c.part-item.result others es (option_copied c.match-part.others) (elim c.match-part.branch [
      | behind_root-in-None w ↦ ap (λ p. root_one p es) w.in-None.is ∙ sym w.behind_mark-others.ensures ∙ ap option_copied (sym w.others-is)
      | behind_root-in-Some w ↦ ap (λ p. root_one p es) w.in-Some.is ∙ ap (λ r. behind_value (value_of w.in-Some.value) r) (sym w.past_mark.ensures) ∙ sym w.behind-others.ensures ∙ ap option_copied (sym w.others-is)
    ])
    ∙ ap (λ o. option_and_then (λ rest. behind_root others rest) o) (ap option_copied c.in-None-others.is)) ∙ c.loop-part.invariant

pub behind_root-loop-part-preserved : goal.behind_root-loop-part-preserved
behind_root-loop-part-preserved t c =
    let ps = c.args.parts.now in
    let i = c.loop-part.part-index in
    let es = c.loop-part.rest.now in
    let others = parts_of (map part_of (drop (i + 1) ps)) in
    sym (root_next ps i c.part-item.result es c.loop-part-test.true c.part-item.is ∙ root_step c.part-item.result others es (option_copied c.match-part.others) (elim c.match-part.branch [
      | behind_root-in-None w ↦ ap (λ p. root_one p es) w.in-None.is ∙ sym w.behind_mark-others.ensures ∙ ap option_copied (sym w.others-is)
      | behind_root-in-Some w ↦ ap (λ p. root_one p es) w.in-Some.is ∙ ap (λ r. behind_value (value_of w.in-Some.value) r) (sym w.past_mark.ensures) ∙ sym w.behind-others.ensures ∙ ap option_copied (sym w.others-is)
    ])
    ∙ ap (λ o. option_and_then (λ rest. behind_root others rest) o) (ap option_copied c.in-Some-others.is)) ∙ c.loop-part.invariant

pub behind_root-returns : goal.behind_root-returns
behind_root-returns t c = sym (root_end c.args.parts.now c.loop-part.part-index c.loop-part.rest.now c.loop-part-test.false) ∙ c.loop-part.invariant

pub behind_added-returns-in-None-others : goal.behind_added-returns-in-None-others
behind_added-returns-in-None-others t c =
    let ps = c.args.parts.now in
    let i = c.loop-part.part-index in
    let es = c.loop-part.rest.now in
    let others = parts_of (map part_of (drop (i + 1) ps)) in
    sym (added_next ps i c.part-item.result es c.loop-part-test.true c.part-item.is ∙ added_step c.part-item.result others es (option_copied c.match-part.others) (elim c.match-part.branch [
      | behind_added-in-None w ↦ ap (λ p. added_one p es) w.in-None.is ∙ sym w.behind_mark-others.ensures ∙ ap option_copied (sym w.others-is)
      | behind_added-in-Some w ↦ ap (λ p. added_one p es) w.in-Some.is ∙ sym w.behind_addition-others.ensures ∙ ap option_copied (sym w.others-is)
    ])
    ∙ ap (λ o. option_and_then (λ rest. behind_added others rest) o) (ap option_copied c.in-None-others.is)) ∙ c.loop-part.invariant

pub behind_added-loop-part-preserved : goal.behind_added-loop-part-preserved
behind_added-loop-part-preserved t c =
    let ps = c.args.parts.now in
    let i = c.loop-part.part-index in
    let es = c.loop-part.rest.now in
    let others = parts_of (map part_of (drop (i + 1) ps)) in
    sym (added_next ps i c.part-item.result es c.loop-part-test.true c.part-item.is ∙ added_step c.part-item.result others es (option_copied c.match-part.others) (elim c.match-part.branch [
      | behind_added-in-None w ↦ ap (λ p. added_one p es) w.in-None.is ∙ sym w.behind_mark-others.ensures ∙ ap option_copied (sym w.others-is)
      | behind_added-in-Some w ↦ ap (λ p. added_one p es) w.in-Some.is ∙ sym w.behind_addition-others.ensures ∙ ap option_copied (sym w.others-is)
    ])
    ∙ ap (λ o. option_and_then (λ rest. behind_added others rest) o) (ap option_copied c.in-Some-others.is)) ∙ c.loop-part.invariant

pub behind_added-returns : goal.behind_added-returns
behind_added-returns t c = c.behind_mark.ensures ∙ sym (added_end c.args.parts.now c.loop-part.part-index c.loop-part.rest.now c.loop-part-test.false) ∙ c.loop-part.invariant

pub behind_any-returns-in-Some : goal.behind_any-returns-in-Some
behind_any-returns-in-Some t c =
    let ds = c.args.elements.now in
    let i = c.loop-element.element-index in
    sym (any_next ds i c.element-item.result c.args.value.now c.loop-element-test.true c.element-item.is
    ∙ ap (λ o. option_or o (behind_any (values_of (map value_of (drop (i + 1) ds))) c.args.value.now)) (sym c.behind.ensures ∙ ap option_copied c.in-Some.is)) ∙ c.loop-element.invariant

pub behind_any-loop-element-preserved : goal.behind_any-loop-element-preserved
behind_any-loop-element-preserved t c =
    let ds = c.args.elements.now in
    let i = c.loop-element.element-index in
    sym (any_next ds i c.element-item.result c.args.value.now c.loop-element-test.true c.element-item.is
    ∙ ap (λ o. option_or o (behind_any (values_of (map value_of (drop (i + 1) ds))) c.args.value.now)) (sym c.behind.ensures ∙ ap option_copied c.in_default.is)) ∙ c.loop-element.invariant

pub behind_any-returns : goal.behind_any-returns
behind_any-returns t c = sym (any_end c.args.elements.now c.loop-element.element-index c.args.value.now c.loop-element-test.false) ∙ c.loop-element.invariant

pub behind_nth-returns : goal.behind_nth-returns
behind_nth-returns t c = sym (nth_over c.args.elements.now c.loop-element.element-index c.loop-element.before c.args.value.now c.loop-element-test.false) ∙ c.loop-element.invariant

pub behind_nth-returns-then-before-eq0 : goal.behind_nth-returns-then-before-eq0
behind_nth-returns-then-before-eq0 t c =
    c.behind.ensures ∙ sym (nth_here c.args.elements.now c.loop-element.element-index c.loop-element.before c.element-item.result c.args.value.now c.loop-element-test.true c.element-item.is c.if-before-eq0.true)
    ∙ c.loop-element.invariant

pub behind_nth-loop-element-preserved : goal.behind_nth-loop-element-preserved
behind_nth-loop-element-preserved t c =
    sym (nth_later c.args.elements.now c.loop-element.element-index c.loop-element.before c.element-item.result c.args.value.now c.loop-element-test.true c.if-before-eq0.false) ∙ c.loop-element.invariant

count_told : (ds : List DefaultValue) (any : List Event → Option (List Event)) (i n : ℕ) (es : List Event) → n ≡ count_on (length ds) any (λ r. is_some (behind_nth ds i r)) es →
    count_on (member_count (values_of (map value_of ds))) any (λ r. is_some (behind_nth ds i r)) es ≡ n
count_told ds any i n es e = ap (λ k. count_on k any (λ r. is_some (behind_nth ds i r)) es) (counted ds) ∙ sym e

pub behind_bag-returns-then-count_on-count_alike : goal.behind_bag-returns-then-count_on-count_alike
behind_bag-returns-then-count_on-count_alike t c =
    let ds = c.args.elements.now in
    let vs = values_of (map value_of ds) in
    let i = c.loop-index.index in
    let es = c.args.value.now in
    let any : List Event → Option (List Event) = λ r. behind_any vs r in
    let a = at_index ds i c.loop-index-test.true in
    let e = count_told ds any i c.count_on.result es c.count_on.ensures in
    let f = alike_at ds i a in
    let q : counts_on vs vs (member_count vs) any es ≡ false =
    sym c.loop-index.invariant ∙ counts_next ds ds i (member_count vs) any es a
    ∙ ap (λ b. b && counts_on (values_of (map value_of (drop (i + 1) ds))) vs (member_count vs) any es)
    (unequal_eqb _ _ (λ g. c.if-count_on-count_alike.true (sym e ∙ sym g ∙ sym f ∙ sym c.count_alike.ensures))) in
    sym (ap (λ b. cond b (behind_each (member_count vs) any es) None) q)

pub behind_bag-loop-index-preserved : goal.behind_bag-loop-index-preserved
behind_bag-loop-index-preserved t c =
    let ds = c.args.elements.now in
    let vs = values_of (map value_of ds) in
    let i = c.loop-index.index in
    let es = c.args.value.now in
    let any : List Event → Option (List Event) = λ r. behind_any vs r in
    let a = at_index ds i c.loop-index-test.true in
    let e = count_told ds any i c.count_on.result es c.count_on.ensures in
    let f = alike_at ds i a in
    sym (counts_next ds ds i (member_count vs) any es a
    ∙ ap (λ b. b && counts_on (values_of (map value_of (drop (i + 1) ds))) vs (member_count vs) any es)
    (eq-eqb _ _ (sym (e ∙ c.if-count_on-count_alike.false ∙ c.count_alike.ensures ∙ f)))) ∙ c.loop-index.invariant

pub behind_bag-returns : goal.behind_bag-returns
behind_bag-returns t c =
    let ds = c.args.elements.now in
    let vs = values_of (map value_of ds) in
    let es = c.args.value.now in
    let any : List Event → Option (List Event) = λ r. behind_any vs r in
    c.behind_each.ensures ∙ ap (λ k. behind_each k any es) (sym (counted ds))
    ∙ sym (ap (λ b. cond b (behind_each (member_count vs) any es) None) (sym c.loop-index.invariant ∙ counts_over ds vs c.loop-index.index (member_count vs) any es c.loop-index-test.false))

abbrev any_of : List DefaultValue → List Event → Option (List Event)
any_of ds r = behind_any (values_of (map value_of ds)) r

left_over : (n t : ℕ) → t < n → 0 < n - t
left_over n t h = omega (arith, h)

one_less : (n t : ℕ) → t < n → n - t - 1 ≡ n - (t + 1)
one_less n t h = omega (arith, h)

pub behind_each-returns-in_default : goal.behind_each-returns-in_default
behind_each-returns-in_default t c =
    let ds = c.args.elements.now in
    let k = length ds - c.loop-taken.taken in
    let es = c.loop-taken.rest.now in
    sym (each_step k (λ r. any_of ds r) es (left_over (length ds) c.loop-taken.taken c.loop-taken-test.true)
    ∙ ap (λ o. option_and_then (λ rest. behind_each (k - 1) (λ r. any_of ds r) rest) (option_and_then (λ rest. any_of ds rest) o)) (sym c.behind_mark.ensures ∙ ap option_copied c.in_default.is)) ∙ c.loop-taken.invariant

pub behind_each-returns-in-None : goal.behind_each-returns-in-None
behind_each-returns-in-None t c =
    let ds = c.args.elements.now in
    let k = length ds - c.loop-taken.taken in
    let es = c.loop-taken.rest.now in
    sym (each_step k (λ r. any_of ds r) es (left_over (length ds) c.loop-taken.taken c.loop-taken-test.true)
    ∙ ap (λ o. option_and_then (λ rest. behind_each (k - 1) (λ r. any_of ds r) rest) (option_and_then (λ rest. any_of ds rest) o)) (sym c.behind_mark.ensures ∙ ap option_copied c.in-Some.is)
    ∙ ap (λ o. option_and_then (λ rest. behind_each (k - 1) (λ r. any_of ds r) rest) o) (sym c.behind_any.ensures ∙ ap option_copied c.in-None.is)) ∙ c.loop-taken.invariant

pub behind_each-loop-taken-preserved : goal.behind_each-loop-taken-preserved
behind_each-loop-taken-preserved t c =
    let ds = c.args.elements.now in
    let k = length ds - c.loop-taken.taken in
    let es = c.loop-taken.rest.now in
    ap (λ m. behind_each m (λ r. any_of ds r) c.in-Some-behind_any.others.now) (sym (one_less (length ds) c.loop-taken.taken c.loop-taken-test.true))
    ∙ sym (each_step k (λ r. any_of ds r) es (left_over (length ds) c.loop-taken.taken c.loop-taken-test.true)
    ∙ ap (λ o. option_and_then (λ rest. behind_each (k - 1) (λ r. any_of ds r) rest) (option_and_then (λ rest. any_of ds rest) o)) (sym c.behind_mark.ensures ∙ ap option_copied c.in-Some.is)
    ∙ ap (λ o. option_and_then (λ rest. behind_each (k - 1) (λ r. any_of ds r) rest) o) (sym c.behind_any.ensures ∙ ap option_copied c.in-Some-behind_any.is)) ∙ c.loop-taken.invariant

pub behind_each-returns : goal.behind_each-returns
behind_each-returns t c =
    let ds = c.args.elements.now in
    c.behind_list_end.ensures ∙ sym (each_end (length ds - c.loop-taken.taken) (λ r. any_of ds r) c.loop-taken.rest.now (omega (arith, c.loop-taken-test.false))) ∙ c.loop-taken.invariant

pub count_on-returns-in_default : goal.count_on-returns-in_default
count_on-returns-in_default t c =
    let ds = c.args.elements.now in
    let k = length ds - c.loop-taken.taken in
    let test : List Event → Bool = λ r. is_some (behind_nth ds c.args.index r) in
    let e = count_step k (λ r. any_of ds r) test c.loop-taken.rest.now (left_over (length ds) c.loop-taken.taken c.loop-taken-test.true)
    ∙ ap (λ o. option_map_or (λ rest. one_if (test rest) + option_map_or (λ others. count_on (k - 1) (λ r. any_of ds r) test others) (any_of ds rest) 0) o 0)
    (sym c.behind_mark.ensures ∙ ap option_copied c.in_default.is) in
    omega (arith, c.loop-taken.invariant.0, e)

pub count_on-returns-in-None : goal.count_on-returns-in-None
count_on-returns-in-None t c =
    let ds = c.args.elements.now in
    let k = length ds - c.loop-taken.taken in
    let test : List Event → Bool = λ r. is_some (behind_nth ds c.args.index r) in
    let inner = c.in-Some.inner.now in
    let b = c.is_some.result in
    let tested : test inner ≡ b = ap is_some (sym c.behind_nth.ensures) ∙ some_copied c.behind_nth.result ∙ sym c.is_some.ensures in
    let added : c.if-is_some.count ≡ c.loop-taken.count + one_if b = elim c.if-is_some.branch [
      | count_on-then-is_some w ↦ let o : one_if b ≡ 1 = ap one_if w.if-is_some.true in omega (arith, w.count-is, o)
      | count_on-else-is_some w ↦ let o : one_if b ≡ 0 = ap one_if w.if-is_some.false in omega (arith, w.count-is, o)
    ] in
    let stepped : count_on k (λ r. any_of ds r) test c.loop-taken.rest.now ≡ one_if b + option_map_or (λ others. count_on (k - 1) (λ r. any_of ds r) test others) (any_of ds inner) 0 =
    count_step k (λ r. any_of ds r) test c.loop-taken.rest.now (left_over (length ds) c.loop-taken.taken c.loop-taken-test.true)
    ∙ ap (λ o. option_map_or (λ rest. one_if (test rest) + option_map_or (λ others. count_on (k - 1) (λ r. any_of ds r) test others) (any_of ds rest) 0) o 0)
    (sym c.behind_mark.ensures ∙ ap option_copied c.in-Some.is)
    ∙ ap (λ x. one_if x + option_map_or (λ others. count_on (k - 1) (λ r. any_of ds r) test others) (any_of ds inner) 0) tested in
    let last = ap (λ o. option_map_or (λ others. count_on (k - 1) (λ r. any_of ds r) test others) o 0) (sym c.behind_any.ensures ∙ ap option_copied c.in-None.is) in
    omega (arith, c.loop-taken.invariant.0, stepped, added, last)

pub count_on-loop-taken-preserved : goal.count_on-loop-taken-preserved
count_on-loop-taken-preserved t c =
    let ds = c.args.elements.now in
    let k = length ds - c.loop-taken.taken in
    let test : List Event → Bool = λ r. is_some (behind_nth ds c.args.index r) in
    let inner = c.in-Some.inner.now in
    let b = c.is_some.result in
    let tested : test inner ≡ b = ap is_some (sym c.behind_nth.ensures) ∙ some_copied c.behind_nth.result ∙ sym c.is_some.ensures in
    let added : c.if-is_some.count ≡ c.loop-taken.count + one_if b = elim c.if-is_some.branch [
      | count_on-then-is_some w ↦ let o : one_if b ≡ 1 = ap one_if w.if-is_some.true in omega (arith, w.count-is, o)
      | count_on-else-is_some w ↦ let o : one_if b ≡ 0 = ap one_if w.if-is_some.false in omega (arith, w.count-is, o)
    ] in
    let stepped : count_on k (λ r. any_of ds r) test c.loop-taken.rest.now ≡ one_if b + option_map_or (λ others. count_on (k - 1) (λ r. any_of ds r) test others) (any_of ds inner) 0 =
    count_step k (λ r. any_of ds r) test c.loop-taken.rest.now (left_over (length ds) c.loop-taken.taken c.loop-taken-test.true)
    ∙ ap (λ o. option_map_or (λ rest. one_if (test rest) + option_map_or (λ others. count_on (k - 1) (λ r. any_of ds r) test others) (any_of ds rest) 0) o 0)
    (sym c.behind_mark.ensures ∙ ap option_copied c.in-Some.is)
    ∙ ap (λ x. one_if x + option_map_or (λ others. count_on (k - 1) (λ r. any_of ds r) test others) (any_of ds inner) 0) tested in
    let others = c.in-Some-behind_any.others.now in
    let last : option_map_or (λ others. count_on (k - 1) (λ r. any_of ds r) test others) (any_of ds inner) 0 ≡ count_on (length ds - (c.loop-taken.taken + 1)) (λ r. any_of ds r) test others =
    ap (λ o. option_map_or (λ others. count_on (k - 1) (λ r. any_of ds r) test others) o 0) (sym c.behind_any.ensures ∙ ap option_copied c.in-Some-behind_any.is)
    ∙ ap (λ m. count_on m (λ r. any_of ds r) test others) (one_less (length ds) c.loop-taken.taken c.loop-taken-test.true) in
    let small = at_most_one b in
    (omega (arith, c.loop-taken.invariant.0, stepped, added, last), omega (arith, c.loop-taken.invariant.1, added, small))

pub count_on-returns : goal.count_on-returns
count_on-returns t c =
    let ds = c.args.elements.now in
    let e = count_end (length ds - c.loop-taken.taken) (λ r. any_of ds r) (λ r. is_some (behind_nth ds c.args.index r)) c.loop-taken.rest.now (omega (arith, c.loop-taken-test.false)) in
    omega (arith, c.loop-taken.invariant.0, e)

pub behind_elements-returns-in_default : goal.behind_elements-returns-in_default
behind_elements-returns-in_default t c =
    let ds = c.args.elements.now in
    let i = c.loop-element.element-index in
    let d = c.element-item.result in
    let vs = values_of (map value_of (drop (i + 1) ds)) in
    sym (members_next ds i d c.loop-element.rest.now c.loop-element-test.true c.element-item.is
    ∙ ap (λ o. option_and_then (λ rest. behind_members vs rest) (option_and_then (λ rest. behind_value (value_of d) rest) o)) (sym c.behind_mark.ensures ∙ ap option_copied c.in_default.is)) ∙ c.loop-element.invariant

pub behind_elements-returns-in-None : goal.behind_elements-returns-in-None
behind_elements-returns-in-None t c =
    let ds = c.args.elements.now in
    let i = c.loop-element.element-index in
    let d = c.element-item.result in
    let vs = values_of (map value_of (drop (i + 1) ds)) in
    sym (members_next ds i d c.loop-element.rest.now c.loop-element-test.true c.element-item.is
    ∙ ap (λ o. option_and_then (λ rest. behind_members vs rest) (option_and_then (λ rest. behind_value (value_of d) rest) o)) (sym c.behind_mark.ensures ∙ ap option_copied c.in-Some.is)
    ∙ ap (λ o. option_and_then (λ rest. behind_members vs rest) o) (sym c.behind.ensures ∙ ap option_copied c.in-None.is)) ∙ c.loop-element.invariant

pub behind_elements-loop-element-preserved : goal.behind_elements-loop-element-preserved
behind_elements-loop-element-preserved t c =
    let ds = c.args.elements.now in
    let i = c.loop-element.element-index in
    let d = c.element-item.result in
    let vs = values_of (map value_of (drop (i + 1) ds)) in
    sym (members_next ds i d c.loop-element.rest.now c.loop-element-test.true c.element-item.is
    ∙ ap (λ o. option_and_then (λ rest. behind_members vs rest) (option_and_then (λ rest. behind_value (value_of d) rest) o)) (sym c.behind_mark.ensures ∙ ap option_copied c.in-Some.is)
    ∙ ap (λ o. option_and_then (λ rest. behind_members vs rest) o) (sym c.behind.ensures ∙ ap option_copied c.in-Some-behind.is)) ∙ c.loop-element.invariant

pub behind_elements-returns : goal.behind_elements-returns
behind_elements-returns t c =
    c.behind_list_end.ensures ∙ sym (members_end c.args.elements.now c.loop-element.element-index c.loop-element.rest.now c.loop-element-test.false) ∙ c.loop-element.invariant
