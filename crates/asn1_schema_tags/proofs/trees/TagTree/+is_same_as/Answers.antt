use Rattle.std.proofs.Common.{◌≡◌, ◌∙◌, sym, ap, ◌<◌, length, drop, arith, rules}
use Rattle.asn1_schema_tags.specs.Plain.{are_same, same_tree}
use Rattle.asn1_schema_tags.proofs.SameLaws.{row_of, choice_choice, leaf_leaf, leaf_choice, choice_leaf, row_next, row_not, row_end, row_lengths}
use Rattle.asn1_schema_tags.proofs.trees.TagTree.+is_same_as.Goals as goal

pub returns-in-Leaf-Leaf : goal.returns-in-Leaf-Leaf
returns-in-Leaf-Leaf t c =
    c.const_eq.ensures.value ∙ sym (leaf_leaf c.args.self.now c.args.other.now c.in-Leaf-Leaf.tag c.in-Leaf-Leaf.other c.in-Leaf-Leaf.is-0 c.in-Leaf-Leaf.is-1)

pub returns-in-Leaf-Choice : goal.returns-in-Leaf-Choice
returns-in-Leaf-Choice t c =
    sym (leaf_choice c.args.self.now c.args.other.now c.in-Leaf-Choice.field-0-0 c.in-Leaf-Choice.field-0-1 c.in-Leaf-Choice.is-0 c.in-Leaf-Choice.is-1)

pub returns-in-Choice-Leaf : goal.returns-in-Choice-Leaf
returns-in-Choice-Leaf t c =
    sym (choice_leaf c.args.self.now c.args.other.now c.in-Choice-Leaf.field-0-0 c.in-Choice-Leaf.field-0-1 c.in-Choice-Leaf.is-0 c.in-Choice-Leaf.is-1)

pub returns-then-nodes-others : goal.returns-then-nodes-others
returns-then-nodes-others t c =
    row_lengths c.in-Choice-Choice.nodes.now c.in-Choice-Choice.others.now c.if-nodes-others.true
    ∙ sym (choice_choice c.args.self.now c.args.other.now c.in-Choice-Choice.nodes c.in-Choice-Choice.others c.in-Choice-Choice.is-0 c.in-Choice-Choice.is-1)

pub loop-i-init : goal.loop-i-init
loop-i-init t c =
    sym (choice_choice c.args.self.now c.args.other.now c.in-Choice-Choice.nodes c.in-Choice-Choice.others c.in-Choice-Choice.is-0 c.in-Choice-Choice.is-1)

pub returns-then-not-is_same_as : goal.returns-then-not-is_same_as
returns-then-not-is_same_as t c =
    let within : c.loop-i.i < length c.in-Choice-Choice.others.now = search rules in
    row_not c.in-Choice-Choice.nodes.now c.in-Choice-Choice.others.now c.loop-i.i c.node-item.result c.index-others-i.result c.loop-i-test.true within
    c.node-item.is c.index-others-i.is (ap (same_tree c.node-item.result) c.index-others-i.is ∙ (sym c.is_same_as.ensures ∙ c.if-not-is_same_as.true))
    ∙ c.loop-i.invariant

pub loop-i-preserved : goal.loop-i-preserved
loop-i-preserved t c =
    let within : c.loop-i.i < length c.in-Choice-Choice.others.now = search rules in
    row_next c.in-Choice-Choice.nodes.now c.in-Choice-Choice.others.now c.loop-i.i c.node-item.result c.index-others-i.result c.loop-i-test.true within
    c.node-item.is c.index-others-i.is (ap (same_tree c.node-item.result) c.index-others-i.is ∙ (sym c.is_same_as.ensures ∙ c.if-not-is_same_as.false))
    ∙ c.loop-i.invariant

pub returns-after-loop-i : goal.returns-after-loop-i
returns-after-loop-i t c =
    let nodes = c.in-Choice-Choice.nodes.now in
    let others = c.in-Choice-Choice.others.now in
    let last : length nodes ≡ c.loop-i.i = search (rules, arith) in
    let lengths : length nodes ≡ length others = search rules in
    row_end nodes others lengths ∙ (ap (λ i. are_same (row_of (drop i nodes)) (row_of (drop i others))) last ∙ c.loop-i.invariant)
