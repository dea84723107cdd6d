use Rattle.std.proofs.Common.{◌≡◌, ◌≤◌, ◌∙◌, sym, ap, arith, option_map, slice_get, ◌+◌, ◌-◌, length, drop, refl}
use Rattle.asn1_schema_tags.specs.Tags.{tag_of}
use Rattle.asn1_schema_tags.specs.Trees.{leaves, leaves_of}
use Rattle.asn1_schema_tags.proofs.PlaceLaws.{tag_found, tag_passed, length_le_of_none, counted_is, counted_fits}
use Rattle.asn1_schema_tags.proofs.trees.TagTree.+tag_at.Goals as goal

pub returns-in-Some : goal.returns-in-Some
returns-in-Some t c =
    sym (tag_found c.in-Choice.nodes.now c.loop-node.node-index c.loop-node.left c.node-item.result (tag_of c.in-Some.tag) c.loop-node-test.true c.node-item.is (sym c.in-Some.ensures))
    ∙ c.loop-node.invariant

pub unwrap-left-requires : goal.unwrap-left-requires
unwrap-left-requires t c =
    let past : length (leaves c.node-item.result) ≤ c.loop-node.left =
    length_le_of_none (leaves c.node-item.result) c.loop-node.left (sym c.tag_at.ensures ∙ ap (option_map tag_of) c.in_default.is) in
    rw (c.leaf_count.ensures.counted, counted_fits (length (leaves c.node-item.result)) (omega (arith, past, c.loop-node.auto.left-fits))) refl

pub overflow_sub-left : goal.overflow_sub-left
overflow_sub-left t c =
    omega (
      arith,
      counted_is (length (leaves c.node-item.result)) c.unwrap-left.result (sym c.leaf_count.ensures.counted ∙ c.unwrap-left.ensures),
      length_le_of_none (leaves c.node-item.result) c.loop-node.left (sym c.tag_at.ensures ∙ ap (option_map tag_of) c.in_default.is),
    )

pub loop-node-preserved : goal.loop-node-preserved
loop-node-preserved t c =
    let count : length (leaves c.node-item.result) ≡ c.unwrap-left.result =
    counted_is (length (leaves c.node-item.result)) c.unwrap-left.result (sym c.leaf_count.ensures.counted ∙ c.unwrap-left.ensures) in
    ap (λ k. slice_get (leaves_of (drop (c.loop-node.node-index + 1) c.in-Choice.nodes.now)) (c.loop-node.left - k)) (sym count)
    ∙ (sym (tag_passed c.in-Choice.nodes.now c.loop-node.node-index c.loop-node.left c.node-item.result c.loop-node-test.true c.node-item.is
    (sym c.tag_at.ensures ∙ ap (option_map tag_of) c.in_default.is))
    ∙ c.loop-node.invariant)
