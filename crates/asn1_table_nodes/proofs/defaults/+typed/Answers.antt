use Rattle.std.proofs.Common.{◌≡◌, ◌∙◌, refl, sym, ap, ◌+◌, ◌&&◌, true, false, not, ◌⊎◌, inl, inr, List, Option, Some, Vec, Global, map, drop, length, slice_get, arith}
use Rattle.std.specs.Option.{option_copied}
use Rattle.std.proofs.lemmas.Bool.{ltb-false}
use Rattle.std.proofs.lemmas.Option.{slice_get_read}
use Rattle.asn1_model.specs.Value.{members, bag, values_of}
use Rattle.asn1_table_nodes.specs.Defaults.{has_type, have_parts, have_type, is_part}
use Rattle.asn1_table_nodes.specs.Listed.{additions_in, root_in}
use Rattle.asn1_table_nodes.specs.declared.events.DefaultValue.{DefaultValue}
use Rattle.asn1_table_nodes.specs.declared.events.DefaultValue.TheVariants.{Components}
use Rattle.asn1_table_nodes.specs.declared.nodes.Component.{Component}
use Rattle.asn1_table_nodes.specs.declared.nodes.TypeNode.{TypeNode}
use Rattle.asn1_table_nodes.specs.Values.{part_of, parts_of, value_of}
use Rattle.asn1_table_nodes.proofs.Composed.{outside, typed_next, typed_end, no_sequence, sequence_typed, no_bag, bag_typed, no_choice, choice_typed, no_parts, parts_typed, parts_short, part_next, parts_over, lengths_next}
use Rattle.asn1_table_nodes.proofs.Scalars.{scalar_typed}
use Rattle.asn1_table_nodes.proofs.Values.{simple_value, sequence_value, bag_value, choice_value, parts_value}
use Rattle.asn1_table_nodes.proofs.defaults.+typed.Goals as goal
use Rattle.asn1_table_nodes.proofs.defaults.+typed.Goals.{have_parts-in-None-part, have_parts-in-Some-part}

pub is_of_type-returns-in-None : goal.is_of_type-returns-in-None
is_of_type-returns-in-None t c = sym (outside c.args.nodes.now c.args.place (value_of c.args.value.now) (ltb-false c.args.place (length c.args.nodes.now) (sym c.in-None.ensures.lookup.0)))

pub is_of_type-returns-in-Some : goal.is_of_type-returns-in-Some
is_of_type-returns-in-Some t c =
    let ns = c.args.nodes.now in
    let x = c.in-Some.node.now in
    let p : slice_get ns c.args.place ≡ Some x = slice_get_read ns (length ns) c.args.place x refl c.in-Some.ensures.lookup.3.0 (c.in-Some.ensures.lookup.3.1 x) in
    c.is_of_node.ensures ∙ ap (λ o. has_type ns o (value_of c.args.value.now)) (sym p)

pub is_of_node-returns-in-Simple : goal.is_of_node-returns-in-Simple
is_of_node-returns-in-Simple t c =
    let ns = c.args.nodes.now in
    let x = c.args.node.now in
    c.is_scalar_of.ensures ∙ sym (ap (λ d. has_type ns (Some x) (value_of d)) c.in-Simple.is ∙ ap (λ v. has_type ns (Some x) v) (simple_value c.in-Simple.event) ∙ scalar_typed ns x c.in-Simple.event)

pub is_of_node-returns-in-None : goal.is_of_node-returns-in-None
is_of_node-returns-in-None t c =
    let ns = c.args.nodes.now in
    let x = c.args.node.now in
    sym (ap (λ d. has_type ns (Some x) (value_of d)) c.in-SequenceOf.is ∙ ap (λ v. has_type ns (Some x) v) (sequence_value c.in-SequenceOf.elements)
    ∙ no_sequence ns x (values_of (map value_of c.in-SequenceOf.elements.items)) (sym c.elements_place.ensures ∙ c.in-None.is))

pub is_of_node-returns-in-Some : goal.is_of_node-returns-in-Some
is_of_node-returns-in-Some t c =
    let ns = c.args.nodes.now in
    let x = c.args.node.now in
    let ds = c.as_slice.result.now in
    c.are_of_type.ensures
    ∙ sym (ap (λ d. has_type ns (Some x) (value_of d)) c.in-SequenceOf.is ∙ ap (λ v. has_type ns (Some x) v) (sequence_value c.in-SequenceOf.elements)
    ∙ ap (λ es. has_type ns (Some x) (members (values_of (map value_of es)))) (sym c.as_slice.ensures.value)
    ∙ sequence_typed ns x c.in-Some.place ds (sym c.elements_place.ensures ∙ c.in-Some.is) (let v = c.in-SequenceOf.elements in omega (arith, c.as_slice.ensures.len, v.ok.0, v.ok.1, v.small)))

pub is_of_node-returns-in-None-bag_place : goal.is_of_node-returns-in-None-bag_place
is_of_node-returns-in-None-bag_place t c =
    let ns = c.args.nodes.now in
    let x = c.args.node.now in
    sym (ap (λ d. has_type ns (Some x) (value_of d)) c.in-SetOf.is ∙ ap (λ v. has_type ns (Some x) v) (bag_value c.in-SetOf.elements)
    ∙ no_bag ns x (values_of (map value_of c.in-SetOf.elements.items)) (sym c.bag_place.ensures ∙ c.in-None-bag_place.is))

pub is_of_node-returns-in-Some-bag_place : goal.is_of_node-returns-in-Some-bag_place
is_of_node-returns-in-Some-bag_place t c =
    let ns = c.args.nodes.now in
    let x = c.args.node.now in
    let ds = c.as_slice-in-Some-bag_place.result.now in
    c.are_of_type-in-Some-bag_place.ensures
    ∙ sym (ap (λ d. has_type ns (Some x) (value_of d)) c.in-SetOf.is ∙ ap (λ v. has_type ns (Some x) v) (bag_value c.in-SetOf.elements)
    ∙ ap (λ es. has_type ns (Some x) (bag (values_of (map value_of es)))) (sym c.as_slice-in-Some-bag_place.ensures.value)
    ∙ bag_typed ns x c.in-Some-bag_place.place ds (sym c.bag_place.ensures ∙ c.in-Some-bag_place.is) (let v = c.in-SetOf.elements in omega (arith, c.as_slice-in-Some-bag_place.ensures.len, v.ok.0, v.ok.1, v.small)))

pub is_of_node-returns-in-None-chosen_place : goal.is_of_node-returns-in-None-chosen_place
is_of_node-returns-in-None-chosen_place t c =
    let ns = c.args.nodes.now in
    let x = c.args.node.now in
    let p = c.in-Choice.chosen in
    sym (ap (λ d. has_type ns (Some x) (value_of d)) c.in-Choice.is ∙ ap (λ v. has_type ns (Some x) v) (choice_value p c.in-Choice.value)
    ∙ no_choice ns x p.added p.place (value_of c.in-Choice.value.value) (sym c.chosen_place.ensures ∙ c.in-None-chosen_place.is))

pub is_of_node-returns-in-Some-chosen_place : goal.is_of_node-returns-in-Some-chosen_place
is_of_node-returns-in-Some-chosen_place t c =
    let ns = c.args.nodes.now in
    let x = c.args.node.now in
    let p = c.in-Choice.chosen in
    c.is_of_type.ensures ∙ ap (λ d. has_type ns (slice_get ns c.in-Some-chosen_place.place) (value_of d)) c.deref.ensures
    ∙ sym (ap (λ d. has_type ns (Some x) (value_of d)) c.in-Choice.is ∙ ap (λ v. has_type ns (Some x) v) (choice_value p c.in-Choice.value)
    ∙ choice_typed ns x p.added p.place c.in-Some-chosen_place.place (value_of c.in-Choice.value.value) (sym c.chosen_place.ensures ∙ c.in-Some-chosen_place.is))

pub are_of_type-returns-then-not-is_of_type : goal.are_of_type-returns-then-not-is_of_type
are_of_type-returns-then-not-is_of_type t c =
    let ns = c.args.nodes.now in
    let o = slice_get ns c.args.place in
    let ds = c.args.values.now in
    let i = c.loop-value.value-index in
    let d = c.value-item.result in
    sym (ap (λ b. b && have_type ns o (values_of (map value_of (drop (i + 1) ds)))) (sym c.is_of_type.ensures ∙ c.if-not-is_of_type.true))
    ∙ sym (typed_next ns o ds i d c.loop-value-test.true c.value-item.is) ∙ c.loop-value.invariant

pub are_of_type-loop-value-preserved : goal.are_of_type-loop-value-preserved
are_of_type-loop-value-preserved t c =
    let ns = c.args.nodes.now in
    let o = slice_get ns c.args.place in
    let ds = c.args.values.now in
    let i = c.loop-value.value-index in
    let d = c.value-item.result in
    sym (ap (λ b. b && have_type ns o (values_of (map value_of (drop (i + 1) ds)))) (sym c.is_of_type.ensures ∙ c.if-not-is_of_type.false))
    ∙ sym (typed_next ns o ds i d c.loop-value-test.true c.value-item.is) ∙ c.loop-value.invariant

pub are_of_type-returns : goal.are_of_type-returns
are_of_type-returns t c =
    let ns = c.args.nodes.now in
    sym (typed_end ns (slice_get ns c.args.place) c.args.values.now c.loop-value.value-index (omega (arith, c.loop-value-test.false))) ∙ c.loop-value.invariant

pub have_parts-returns-then-components-parts : goal.have_parts-returns-then-components-parts
have_parts-returns-then-components-parts t c = sym (parts_short c.args.nodes.now c.args.components.now c.args.parts.now c.if-components-parts.true)

pub have_parts-returns-then-not-is_part : goal.have_parts-returns-then-not-is_part
have_parts-returns-then-not-is_part t c =
    let s = c.in-Some.ensures.steps in
    sym (part_next c.args.nodes.now c.in-Some.component.now _ _ c.in-Some.part.now _ _ false s.0 s.1 (elim c.match-part.branch [
      | have_parts-in-None-part w ↦ sym c.if-not-is_part.true ∙ w.is_part-is ∙ ap not w.is_required.ensures ∙ sym (ap (λ o. is_part c.args.nodes.now c.in-Some.component.now (part_of o)) w.in-None-part.is)
      | have_parts-in-Some-part w ↦ sym c.if-not-is_part.true ∙ w.is_part-is ∙ w.is_of_type-is_part.ensures ∙ sym (ap (λ o. is_part c.args.nodes.now c.in-Some.component.now (part_of o)) w.in-Some-part.is)
    ])) ∙ c.loop-component.invariant.0

pub have_parts-loop-component-init : goal.have_parts-loop-component-init
have_parts-loop-component-init t c =
    let i = c.into_iter-component-iterator.ensures.into_iter_gives in
    let a : c.into_iter-component-iterator.result.a.rest.now ≡ c.args.components.now = ap (λ z. z.a.rest.now) i ∙ ap (λ z. z.rest.now) c.zip-component-items.ensures.first ∙ c.iter.ensures.rest in
    let b : c.into_iter-component-iterator.result.b.rest.now ≡ c.args.parts.now = ap (λ z. z.b.rest.now) i ∙ c.zip-component-items.ensures.second.0 in (
      ap (λ xs. have_parts c.args.nodes.now xs (parts_of (map part_of c.into_iter-component-iterator.result.b.rest.now))) a
          ∙ ap (λ ys. have_parts c.args.nodes.now c.args.components.now (parts_of (map part_of ys))) b,
      ap (λ xs. length xs) a ∙ c.if-components-parts.false ∙ sym (ap (λ ys. length ys) b),
    )

pub have_parts-loop-component-preserved : goal.have_parts-loop-component-preserved
have_parts-loop-component-preserved t c =
    let s = c.in-Some.ensures.steps in (
      sym (part_next c.args.nodes.now c.in-Some.component.now _ _ c.in-Some.part.now _ _ true s.0 s.1 (elim c.match-part.branch [
        | have_parts-in-None-part w ↦ sym c.if-not-is_part.false ∙ w.is_part-is ∙ ap not w.is_required.ensures ∙ sym (ap (λ o. is_part c.args.nodes.now c.in-Some.component.now (part_of o)) w.in-None-part.is)
        | have_parts-in-Some-part w ↦ sym c.if-not-is_part.false ∙ w.is_part-is ∙ w.is_of_type-is_part.ensures ∙ sym (ap (λ o. is_part c.args.nodes.now c.in-Some.component.now (part_of o)) w.in-Some-part.is)
      ])) ∙ c.loop-component.invariant.0,
      lengths_next _ _ _ _ _ _ s.0 s.1 c.loop-component.invariant.1,
    )

pub have_parts-returns : goal.have_parts-returns
have_parts-returns t c = go c.in-None.ensures.steps
  where
    go : ((x : _) × ((length c.loop-component.component-iterator.a.rest.now ≡ 0) × (x ≡ c.loop-component.component-iterator.a)))
        ⊎ ((x : _) × ((length c.loop-component.component-iterator.b.rest.now ≡ 0) × (x ≡ c.loop-component.component-iterator.b)))
        → true ≡ have_parts c.args.nodes.now c.args.components.now (parts_of (map part_of c.args.parts.now))
    go (inl l) = sym (parts_over c.args.nodes.now _ _ c.loop-component.invariant.1 l.1.0) ∙ c.loop-component.invariant.0
    go (inr l) = sym (parts_over c.args.nodes.now _ _ c.loop-component.invariant.1 (omega (arith, c.loop-component.invariant.1, l.1.0))) ∙ c.loop-component.invariant.0

pub is_of_node-returns-in-None-root_of : goal.is_of_node-returns-in-None-root_of
is_of_node-returns-in-None-root_of t c =
    let ns = c.args.nodes.now in
    let x = c.args.node.now in
    let ps = c.in-Components.root.items in
    let qs = c.in-Components.additions.items in
    sym (ap (λ d. has_type ns (Some x) (value_of d)) c.in-Components.is ∙ ap (λ v. has_type ns (Some x) v) (parts_value c.in-Components.root c.in-Components.additions)
    ∙ no_parts ns x (parts_of (map part_of ps)) (parts_of (map part_of qs)) (sym c.root_of.ensures ∙ ap option_copied c.in-None-root_of.is))

parts_in : (ns : List TypeNode) (x : TypeNode) (cs : List Component) (r a : Vec (Option DefaultValue) Global) (d : DefaultValue) (rs os : List (Option DefaultValue)) →
    d ≡ Components r a → root_in x ≡ Some cs → rs ≡ r.items → os ≡ a.items →
    has_type ns (Some x) (value_of d) ≡ (have_parts ns cs (parts_of (map part_of rs)) && have_parts ns (additions_in x) (parts_of (map part_of os)))
parts_in ns x cs r a d rs os e f p q =
    ap (λ d. has_type ns (Some x) (value_of d)) e ∙ ap (λ v. has_type ns (Some x) v) (parts_value r a)
    ∙ parts_typed ns x cs (parts_of (map part_of r.items)) (parts_of (map part_of a.items)) f
    ∙ ap (λ ys. have_parts ns cs (parts_of (map part_of ys)) && have_parts ns (additions_in x) (parts_of (map part_of a.items))) (sym p)
    ∙ ap (λ ys. have_parts ns cs (parts_of (map part_of rs)) && have_parts ns (additions_in x) (parts_of (map part_of ys))) (sym q)

pub is_of_node-returns-then-have_parts : goal.is_of_node-returns-then-have_parts
is_of_node-returns-then-have_parts t c =
    let ns = c.args.nodes.now in
    let x = c.args.node.now in
    c.have_parts-then-have_parts.ensures
    ∙ ap (λ cs. have_parts ns cs (parts_of (map part_of c.as_slice-then-have_parts.result.now))) c.additions_of.ensures
    ∙ ap (λ b. b && have_parts ns (additions_in x) (parts_of (map part_of c.as_slice-then-have_parts.result.now))) (sym c.if-have_parts.true ∙ c.have_parts.ensures)
    ∙ sym (parts_in ns x c.in-Some-root_of.components.now c.in-Components.root c.in-Components.additions c.args.value.now _ _ c.in-Components.is
    (sym c.root_of.ensures ∙ ap option_copied c.in-Some-root_of.is) c.as_slice-in-Some-root_of.ensures.value c.as_slice-then-have_parts.ensures.value)

pub is_of_node-returns-else-have_parts : goal.is_of_node-returns-else-have_parts
is_of_node-returns-else-have_parts t c =
    let ns = c.args.nodes.now in
    let x = c.args.node.now in
    c.if-have_parts.false
    ∙ ap (λ b. b && have_parts ns (additions_in x) (parts_of (map part_of c.in-Components.additions.items))) (sym c.if-have_parts.false ∙ c.have_parts.ensures)
    ∙ sym (parts_in ns x c.in-Some-root_of.components.now c.in-Components.root c.in-Components.additions c.args.value.now _ _ c.in-Components.is
    (sym c.root_of.ensures ∙ ap option_copied c.in-Some-root_of.is) c.as_slice-in-Some-root_of.ensures.value refl)
