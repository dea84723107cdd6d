use Rattle.std.proofs.Common.{IfErr, OnOk, false, inl, subst, sym}
use Rattle.asn1_table_nodes.specs.declared.nodes.TypeNode.{TypeNode}
use Rattle.asn1_table_nodes.specs.declared.nodes.TypeNode.TheVariants as node
use Rattle.asn1_table_extending.proofs.Led.{adds_more, component_parts_at}
use Rattle.asn1_table_extending.proofs.Matched.{on_ok}
use Rattle.asn1_table_extending.proofs.Refused.{components_differ_at, due_more}
use Rattle.asn1_table_extending.specs.Differing.{ComponentsDiffer, IsDue, NodesDiffer}
use Rattle.asn1_table_extending.specs.Leading.{AddsOnly, ComponentParts, NodeParts}
use Rattle.asn1_table_extending.proofs.extending.check_node.Goals as goal

pub returns-in-Group-Group-clause-refused : goal.returns-in-Group-Group-clause-refused
returns-in-Group-Group-clause-refused c =
    let cs = c.in-Group-Group.components in
    let es = c.in-Group-Group.others in
    let P : TypeNode → Type 0 = λ x. IfErr c.check_components.result (IsDue (λ d. NodesDiffer d x c.args.newer.now)) in
    let Q : TypeNode → Type 0 = λ y. IfErr c.check_components.result (IsDue (λ d. NodesDiffer d (node.Group cs) y)) in
    subst P (sym c.in-Group-Group.is-0) (subst Q (sym c.in-Group-Group.is-1)
    (due_more (λ d. ComponentsDiffer d false c.as_slice.result.now c.as_slice-in-Group-Group.result.now) (λ d. ComponentsDiffer d false cs.items es.items) c.check_components.result
    (λ d h. components_differ_at d false _ _ cs.items es.items c.as_slice.ensures.value c.as_slice-in-Group-Group.ensures.value h) c.check_components.ensures.refused))

pub returns-in-Group-Group-clause-added : goal.returns-in-Group-Group-clause-added
returns-in-Group-Group-clause-added c =
    let cs = c.in-Group-Group.components in
    let es = c.in-Group-Group.others in
    let ps = c.args.pairs.now.items in
    let qs = c.check_components.new.pairs.items in
    let P : TypeNode → Type 0 = λ x. OnOk c.check_components.result (AddsOnly (NodeParts x c.args.newer.now) ps qs) in
    let Q : TypeNode → Type 0 = λ y. OnOk c.check_components.result (AddsOnly (NodeParts (node.Group cs) y) ps qs) in
    subst P (sym c.in-Group-Group.is-0) (subst Q (sym c.in-Group-Group.is-1) (on_ok c.check_components.result c.check_components.ensures.added
    (λ a. adds_more (ComponentParts c.as_slice.result.now c.as_slice-in-Group-Group.result.now) (λ i j. ⊥) (ComponentParts cs.items es.items) ps qs qs a (λ i j h. inl h)
    (λ i j h. component_parts_at _ _ cs.items es.items i j c.as_slice.ensures.value c.as_slice-in-Group-Group.ensures.value h) (λ i j h. absurd h))))

pub returns-in-SequenceOf-SequenceOf-clause-added : goal.returns-in-SequenceOf-SequenceOf-clause-added
returns-in-SequenceOf-SequenceOf-clause-added c =
    let r = c.check_list in
    let ps = c.args.pairs.now.items in
    let qs = r.new.pairs.items in
    let P : TypeNode → Type 0 = λ x. OnOk r.result (AddsOnly (NodeParts x c.args.newer.now) ps qs) in
    let Q : TypeNode → Type 0 = λ y. OnOk r.result (AddsOnly (NodeParts (node.SequenceOf c.in-SequenceOf-SequenceOf.sizes c.in-SequenceOf-SequenceOf.place) y) ps qs) in
    subst P (sym c.in-SequenceOf-SequenceOf.is-0) (subst Q (sym c.in-SequenceOf-SequenceOf.is-1) r.ensures.added)

pub returns-in-SetOf-SetOf-clause-added : goal.returns-in-SetOf-SetOf-clause-added
returns-in-SetOf-SetOf-clause-added c =
    let r = c.check_list-in-SetOf-SetOf in
    let ps = c.args.pairs.now.items in
    let qs = r.new.pairs.items in
    let P : TypeNode → Type 0 = λ x. OnOk r.result (AddsOnly (NodeParts x c.args.newer.now) ps qs) in
    let Q : TypeNode → Type 0 = λ y. OnOk r.result (AddsOnly (NodeParts (node.SetOf c.in-SetOf-SetOf.sizes c.in-SetOf-SetOf.place) y) ps qs) in
    subst P (sym c.in-SetOf-SetOf.is-0) (subst Q (sym c.in-SetOf-SetOf.is-1) r.ensures.added)

pub returns-in-Sequence-Sequence-clause-added : goal.returns-in-Sequence-Sequence-clause-added
returns-in-Sequence-Sequence-clause-added c =
    let r = c.check_table in
    let ps = c.args.pairs.now.items in
    let qs = r.new.pairs.items in
    let P : TypeNode → Type 0 = λ x. OnOk r.result (AddsOnly (NodeParts x c.args.newer.now) ps qs) in
    let Q : TypeNode → Type 0 = λ y. OnOk r.result (AddsOnly (NodeParts (node.Sequence c.in-Sequence-Sequence.table) y) ps qs) in
    subst P (sym c.in-Sequence-Sequence.is-0) (subst Q (sym c.in-Sequence-Sequence.is-1) r.ensures.added)

pub returns-in-Set-Set-clause-added : goal.returns-in-Set-Set-clause-added
returns-in-Set-Set-clause-added c =
    let r = c.check_table-in-Set-Set in
    let ps = c.args.pairs.now.items in
    let qs = r.new.pairs.items in
    let P : TypeNode → Type 0 = λ x. OnOk r.result (AddsOnly (NodeParts x c.args.newer.now) ps qs) in
    let Q : TypeNode → Type 0 = λ y. OnOk r.result (AddsOnly (NodeParts (node.Set c.in-Set-Set.table) y) ps qs) in
    subst P (sym c.in-Set-Set.is-0) (subst Q (sym c.in-Set-Set.is-1) r.ensures.added)

pub returns-in-Choice-Choice-clause-added : goal.returns-in-Choice-Choice-clause-added
returns-in-Choice-Choice-clause-added c =
    let r = c.check_choice in
    let ps = c.args.pairs.now.items in
    let qs = r.new.pairs.items in
    let P : TypeNode → Type 0 = λ x. OnOk r.result (AddsOnly (NodeParts x c.args.newer.now) ps qs) in
    let Q : TypeNode → Type 0 = λ y. OnOk r.result (AddsOnly (NodeParts (node.Choice c.in-Choice-Choice.table) y) ps qs) in
    subst P (sym c.in-Choice-Choice.is-0) (subst Q (sym c.in-Choice-Choice.is-1) r.ensures.added)
