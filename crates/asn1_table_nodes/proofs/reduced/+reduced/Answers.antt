use Rattle.std.proofs.Common.{◌≡◌, ◌∙◌, refl, sym, ap, ◌+◌, ◌&&◌, true, false, not, ◌⊎◌, inl, inr, List, Option, Some, None, Vec, Global, map, drop, length, slice_get, arith}
use Rattle.std.specs.Option.{option_copied, option_map, option_map_or}
use Rattle.asn1_table_nodes.specs.declared.nodes.Alternative.{Alternative}
use Rattle.std.proofs.lemmas.Bool.{ltb-false}
use Rattle.std.proofs.lemmas.Option.{slice_get_read}
use Rattle.asn1_model.specs.Value.{values_of}
use Rattle.asn1_table_nodes.specs.declared.events.DefaultValue.{DefaultValue}
use Rattle.asn1_table_nodes.specs.declared.events.DefaultValue.TheVariants.{Components}
use Rattle.asn1_table_nodes.specs.declared.nodes.Component.{Component}
use Rattle.asn1_table_nodes.specs.declared.nodes.TypeNode.{TypeNode}
use Rattle.asn1_table_nodes.specs.Listed.{additions_in, root_in}
use Rattle.asn1_table_nodes.specs.Reduced.{are_reduced, have_reduced, is_left_out, is_reduced, is_reduced_part}
use Rattle.asn1_table_nodes.specs.Values.{part_of, parts_of, value_of}
use Rattle.asn1_table_nodes.proofs.ReducedSteps.{outside_reduced, elements_reduced, bag_reduced, choice_reduced, parts_reduced, members_next, members_over, reduced_next, reduced_over, scalar_reduced}
use Rattle.asn1_table_nodes.proofs.Values.{simple_value, sequence_value, bag_value, choice_value, parts_value, values_next, values_end}
use Rattle.asn1_table_nodes.proofs.reduced.+reduced.Goals as goal
use Rattle.asn1_table_nodes.proofs.reduced.+reduced.Goals.{have_reduced-in-None-part, have_reduced-in-Some-part+then-not-is_left_out, have_reduced-in-Some-part+else-not-is_left_out}

pub is_reduced-returns-in-None : goal.is_reduced-returns-in-None
is_reduced-returns-in-None t c =
    sym (outside_reduced c.args.nodes.now c.args.place (value_of c.args.value.now) (ltb-false c.args.place (length c.args.nodes.now) (sym c.in-None.ensures.lookup.0)))

pub is_reduced-returns-in-Some : goal.is_reduced-returns-in-Some
is_reduced-returns-in-Some t c =
    let ns = c.args.nodes.now in
    let x = c.in-Some.node.now in
    let p : slice_get ns c.args.place ≡ Some x = slice_get_read ns (length ns) c.args.place x refl c.in-Some.ensures.lookup.3.0 (c.in-Some.ensures.lookup.3.1 x) in
    c.is_reduced_of.ensures ∙ ap (λ o. is_reduced ns o (value_of c.args.value.now)) (sym p)

pub is_reduced_of-returns-in-Simple : goal.is_reduced_of-returns-in-Simple
is_reduced_of-returns-in-Simple t c =
    let ns = c.args.nodes.now in
    let x = c.args.node.now in
    sym (ap (λ d. is_reduced ns (Some x) (value_of d)) c.in-Simple.is ∙ ap (λ v. is_reduced ns (Some x) v) (simple_value _) ∙ scalar_reduced ns x _)

pub is_reduced_of-returns-in-None : goal.is_reduced_of-returns-in-None
is_reduced_of-returns-in-None t c =
    let ns = c.args.nodes.now in
    let x = c.args.node.now in
    let vs = values_of (map value_of c.in-SequenceOf.elements.items) in
    sym (ap (λ d. is_reduced ns (Some x) (value_of d)) c.in-SequenceOf.is ∙ ap (λ v. is_reduced ns (Some x) v) (sequence_value c.in-SequenceOf.elements)
    ∙ elements_reduced ns x vs None (sym c.elements_place.ensures ∙ c.in-None.is))

pub is_reduced_of-returns-in-Some : goal.is_reduced_of-returns-in-Some
is_reduced_of-returns-in-Some t c =
    let ns = c.args.nodes.now in
    let x = c.args.node.now in
    let vs = values_of (map value_of c.in-SequenceOf.elements.items) in
    c.are_reduced.ensures ∙ ap (λ es. are_reduced ns (slice_get ns c.in-Some.place) (values_of (map value_of es))) c.as_slice.ensures.value
    ∙ sym (ap (λ d. is_reduced ns (Some x) (value_of d)) c.in-SequenceOf.is ∙ ap (λ v. is_reduced ns (Some x) v) (sequence_value c.in-SequenceOf.elements)
    ∙ elements_reduced ns x vs (Some c.in-Some.place) (sym c.elements_place.ensures ∙ c.in-Some.is))

pub is_reduced_of-returns-in-None-bag_place : goal.is_reduced_of-returns-in-None-bag_place
is_reduced_of-returns-in-None-bag_place t c =
    let ns = c.args.nodes.now in
    let x = c.args.node.now in
    let vs = values_of (map value_of c.in-SetOf.elements.items) in
    sym (ap (λ d. is_reduced ns (Some x) (value_of d)) c.in-SetOf.is ∙ ap (λ v. is_reduced ns (Some x) v) (bag_value c.in-SetOf.elements)
    ∙ bag_reduced ns x vs None (sym c.bag_place.ensures ∙ c.in-None-bag_place.is))

pub is_reduced_of-returns-in-Some-bag_place : goal.is_reduced_of-returns-in-Some-bag_place
is_reduced_of-returns-in-Some-bag_place t c =
    let ns = c.args.nodes.now in
    let x = c.args.node.now in
    let vs = values_of (map value_of c.in-SetOf.elements.items) in
    c.are_reduced-in-Some-bag_place.ensures ∙ ap (λ es. are_reduced ns (slice_get ns c.in-Some-bag_place.place) (values_of (map value_of es))) c.as_slice-in-Some-bag_place.ensures.value
    ∙ sym (ap (λ d. is_reduced ns (Some x) (value_of d)) c.in-SetOf.is ∙ ap (λ v. is_reduced ns (Some x) v) (bag_value c.in-SetOf.elements)
    ∙ bag_reduced ns x vs (Some c.in-Some-bag_place.place) (sym c.bag_place.ensures ∙ c.in-Some-bag_place.is))

pub is_reduced_of-returns-in-None-place_among : goal.is_reduced_of-returns-in-None-place_among
is_reduced_of-returns-in-None-place_among t c =
    let ns = c.args.nodes.now in
    let x = c.args.node.now in
    let p = c.in-Choice.chosen in
    sym (ap (λ d. is_reduced ns (Some x) (value_of d)) c.in-Choice.is ∙ ap (λ v. is_reduced ns (Some x) v) (choice_value p c.in-Choice.value)
    ∙ choice_reduced ns x p.added p.place (value_of c.in-Choice.value.value) None
    (ap (λ xs. option_map (λ (a : Alternative). a.place) (slice_get xs p.place)) (sym c.alternatives_of.ensures) ∙ sym c.place_among.ensures ∙ c.in-None-place_among.is))

pub is_reduced_of-returns-in-Some-place_among : goal.is_reduced_of-returns-in-Some-place_among
is_reduced_of-returns-in-Some-place_among t c =
    let ns = c.args.nodes.now in
    let x = c.args.node.now in
    let p = c.in-Choice.chosen in
    c.is_reduced.ensures ∙ ap (λ d. is_reduced ns (slice_get ns c.in-Some-place_among.place) (value_of d)) c.deref.ensures
    ∙ sym (ap (λ d. is_reduced ns (Some x) (value_of d)) c.in-Choice.is ∙ ap (λ v. is_reduced ns (Some x) v) (choice_value p c.in-Choice.value)
    ∙ choice_reduced ns x p.added p.place (value_of c.in-Choice.value.value) (Some c.in-Some-place_among.place)
    (ap (λ xs. option_map (λ (a : Alternative). a.place) (slice_get xs p.place)) (sym c.alternatives_of.ensures) ∙ sym c.place_among.ensures ∙ c.in-Some-place_among.is))

parts_in : (ns : List TypeNode) (x : TypeNode) (o : Option (List Component)) (r a : Vec (Option DefaultValue) Global) (d : DefaultValue) → d ≡ Components r a → root_in x ≡ o →
    is_reduced ns (Some x) (value_of d)
    ≡ option_map_or (λ cs. have_reduced ns cs (parts_of (map part_of r.items)) && have_reduced ns (additions_in x) (parts_of (map part_of a.items))) o true
parts_in ns x o r a d e f =
    ap (λ d. is_reduced ns (Some x) (value_of d)) e ∙ ap (λ v. is_reduced ns (Some x) v) (parts_value r a)
    ∙ parts_reduced ns x (parts_of (map part_of r.items)) (parts_of (map part_of a.items)) o f

pub is_reduced_of-returns-in-None-root_of : goal.is_reduced_of-returns-in-None-root_of
is_reduced_of-returns-in-None-root_of t c =
    sym (parts_in c.args.nodes.now c.args.node.now None c.in-Components.root c.in-Components.additions c.args.value.now c.in-Components.is (sym c.root_of.ensures ∙ ap option_copied c.in-None-root_of.is))

pub is_reduced_of-returns-then-have_reduced : goal.is_reduced_of-returns-then-have_reduced
is_reduced_of-returns-then-have_reduced t c =
    let ns = c.args.nodes.now in
    let x = c.args.node.now in
    let cs = c.in-Some-root_of.components.now in
    let r = c.in-Components.root in
    let a = c.in-Components.additions in
    c.have_reduced-then-have_reduced.ensures
    ∙ ap (λ ds. have_reduced ns ds (parts_of (map part_of c.as_slice-then-have_reduced.result.now))) c.additions_of.ensures
    ∙ ap (λ ys. have_reduced ns (additions_in x) (parts_of (map part_of ys))) c.as_slice-then-have_reduced.ensures.value
    ∙ ap (λ b. b && have_reduced ns (additions_in x) (parts_of (map part_of a.items)))
    (sym c.if-have_reduced.true ∙ c.have_reduced.ensures ∙ ap (λ ys. have_reduced ns cs (parts_of (map part_of ys))) c.as_slice-in-Some-root_of.ensures.value)
    ∙ sym (parts_in ns x (Some cs) r a c.args.value.now c.in-Components.is (sym c.root_of.ensures ∙ ap option_copied c.in-Some-root_of.is))

pub is_reduced_of-returns-else-have_reduced : goal.is_reduced_of-returns-else-have_reduced
is_reduced_of-returns-else-have_reduced t c =
    let ns = c.args.nodes.now in
    let x = c.args.node.now in
    let cs = c.in-Some-root_of.components.now in
    let r = c.in-Components.root in
    let a = c.in-Components.additions in
    c.if-have_reduced.false
    ∙ ap (λ b. b && have_reduced ns (additions_in x) (parts_of (map part_of a.items)))
    (sym c.if-have_reduced.false ∙ c.have_reduced.ensures ∙ ap (λ ys. have_reduced ns cs (parts_of (map part_of ys))) c.as_slice-in-Some-root_of.ensures.value)
    ∙ sym (parts_in ns x (Some cs) r a c.args.value.now c.in-Components.is (sym c.root_of.ensures ∙ ap option_copied c.in-Some-root_of.is))

pub are_reduced-returns-then-not-is_reduced : goal.are_reduced-returns-then-not-is_reduced
are_reduced-returns-then-not-is_reduced t c =
    let ns = c.args.nodes.now in
    let o = slice_get ns c.args.place in
    let ds = c.args.values.now in
    let i = c.loop-value.value-index in
    let d = c.value-item.result in
    let vs = values_of (map value_of (drop (i + 1) ds)) in
    sym (ap (λ vs. are_reduced ns o vs) (values_next ds i d c.loop-value-test.true c.value-item.is) ∙ members_next ns o (value_of d) vs
    ∙ ap (λ b. b && are_reduced ns o vs) (sym c.is_reduced.ensures ∙ c.if-not-is_reduced.true)) ∙ c.loop-value.invariant

pub are_reduced-loop-value-preserved : goal.are_reduced-loop-value-preserved
are_reduced-loop-value-preserved t c =
    let ns = c.args.nodes.now in
    let o = slice_get ns c.args.place in
    let ds = c.args.values.now in
    let i = c.loop-value.value-index in
    let d = c.value-item.result in
    let vs = values_of (map value_of (drop (i + 1) ds)) in
    sym (ap (λ vs. are_reduced ns o vs) (values_next ds i d c.loop-value-test.true c.value-item.is) ∙ members_next ns o (value_of d) vs
    ∙ ap (λ b. b && are_reduced ns o vs) (sym c.is_reduced.ensures ∙ c.if-not-is_reduced.false)) ∙ c.loop-value.invariant

pub are_reduced-returns : goal.are_reduced-returns
are_reduced-returns t c =
    let ns = c.args.nodes.now in
    let o = slice_get ns c.args.place in
    sym (ap (λ vs. are_reduced ns o vs) (values_end c.args.values.now c.loop-value.value-index (omega (arith, c.loop-value-test.false))) ∙ members_over ns o) ∙ c.loop-value.invariant

pub have_reduced-loop-component-init : goal.have_reduced-loop-component-init
have_reduced-loop-component-init t c =
    let i = c.into_iter-component-iterator.ensures.into_iter_gives in
    let a : c.into_iter-component-iterator.result.a.rest.now ≡ c.args.components.now = ap (λ z. z.a.rest.now) i ∙ ap (λ z. z.rest.now) c.zip-component-items.ensures.first ∙ c.iter.ensures.rest in
    let b : c.into_iter-component-iterator.result.b.rest.now ≡ c.args.parts.now = ap (λ z. z.b.rest.now) i ∙ c.zip-component-items.ensures.second.0 in
    ap (λ xs. have_reduced c.args.nodes.now xs (parts_of (map part_of c.into_iter-component-iterator.result.b.rest.now))) a
    ∙ ap (λ ys. have_reduced c.args.nodes.now c.args.components.now (parts_of (map part_of ys))) b

pub have_reduced-returns : goal.have_reduced-returns
have_reduced-returns t c = go c.in-None.ensures.steps
  where
    go : ((x : _) × ((length c.loop-component.component-iterator.a.rest.now ≡ 0) × (x ≡ c.loop-component.component-iterator.a)))
        ⊎ ((x : _) × ((length c.loop-component.component-iterator.b.rest.now ≡ 0) × (x ≡ c.loop-component.component-iterator.b)))
        → true ≡ have_reduced c.args.nodes.now c.args.components.now (parts_of (map part_of c.args.parts.now))
    go (inl l) = sym (reduced_over c.args.nodes.now _ _ (inl l.1.0)) ∙ c.loop-component.invariant
    go (inr l) = sym (reduced_over c.args.nodes.now _ _ (inr l.1.0)) ∙ c.loop-component.invariant

pub have_reduced-returns-then-not-is_kept : goal.have_reduced-returns-then-not-is_kept
have_reduced-returns-then-not-is_kept t c =
    let s = c.in-Some.ensures.steps in
    sym (reduced_next c.args.nodes.now c.in-Some.component.now _ _ c.in-Some.part.now _ _ false s.0 s.1 (elim c.match-part.branch [
      | have_reduced-in-None-part w ↦ sym c.if-not-is_kept.true ∙ w.is_kept-is ∙ sym (ap (λ o. is_reduced_part c.args.nodes.now c.in-Some.component.now (part_of o)) w.in-None-part.is)
      | have_reduced-in-Some-part+then-not-is_left_out w ↦
          sym c.if-not-is_kept.true ∙ w.is_kept-is ∙ w.is_reduced.ensures
          ∙ ap (λ b. not b && is_reduced c.args.nodes.now (slice_get c.args.nodes.now c.in-Some.component.now.place) (value_of w.in-Some-part.value)) (sym w.if-not-is_left_out.true ∙ w.is_left_out.ensures)
          ∙ sym (ap (λ o. is_reduced_part c.args.nodes.now c.in-Some.component.now (part_of o)) w.in-Some-part.is)
      | have_reduced-in-Some-part+else-not-is_left_out w ↦
          sym c.if-not-is_kept.true ∙ w.is_kept-is ∙ ap not w.if-not-is_left_out.false
          ∙ ap (λ b. not b && is_reduced c.args.nodes.now (slice_get c.args.nodes.now c.in-Some.component.now.place) (value_of w.in-Some-part.value)) (sym w.if-not-is_left_out.false ∙ w.is_left_out.ensures)
          ∙ sym (ap (λ o. is_reduced_part c.args.nodes.now c.in-Some.component.now (part_of o)) w.in-Some-part.is)
    ])) ∙ c.loop-component.invariant

pub have_reduced-loop-component-preserved : goal.have_reduced-loop-component-preserved
have_reduced-loop-component-preserved t c =
    let s = c.in-Some.ensures.steps in
    sym (reduced_next c.args.nodes.now c.in-Some.component.now _ _ c.in-Some.part.now _ _ true s.0 s.1 (elim c.match-part.branch [
      | have_reduced-in-None-part w ↦ sym c.if-not-is_kept.false ∙ w.is_kept-is ∙ sym (ap (λ o. is_reduced_part c.args.nodes.now c.in-Some.component.now (part_of o)) w.in-None-part.is)
      | have_reduced-in-Some-part+then-not-is_left_out w ↦
          sym c.if-not-is_kept.false ∙ w.is_kept-is ∙ w.is_reduced.ensures
          ∙ ap (λ b. not b && is_reduced c.args.nodes.now (slice_get c.args.nodes.now c.in-Some.component.now.place) (value_of w.in-Some-part.value)) (sym w.if-not-is_left_out.true ∙ w.is_left_out.ensures)
          ∙ sym (ap (λ o. is_reduced_part c.args.nodes.now c.in-Some.component.now (part_of o)) w.in-Some-part.is)
      | have_reduced-in-Some-part+else-not-is_left_out w ↦
          sym c.if-not-is_kept.false ∙ w.is_kept-is ∙ ap not w.if-not-is_left_out.false
          ∙ ap (λ b. not b && is_reduced c.args.nodes.now (slice_get c.args.nodes.now c.in-Some.component.now.place) (value_of w.in-Some-part.value)) (sym w.if-not-is_left_out.false ∙ w.is_left_out.ensures)
          ∙ sym (ap (λ o. is_reduced_part c.args.nodes.now c.in-Some.component.now (part_of o)) w.in-Some-part.is)
    ])) ∙ c.loop-component.invariant
