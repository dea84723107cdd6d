use Rattle.std.proofs.Common.{◌≡◌, ◌∙◌, sym, ap, arith, ◌+◌, length, drop}
use Rattle.std.specs.List.{position_from}
use Rattle.asn1_model.specs.Lawful.{tag_same}
use Rattle.asn1_schema_tags.specs.Tags.{tag_of}
use Rattle.asn1_schema_tags.specs.Trees.{leaves, leaves_of}
use Rattle.asn1_schema_tags.proofs.PlaceLaws.{place_found, place_passed, place_within, length_step, counted_is}
use Rattle.asn1_schema_tags.proofs.trees.TagTree.+place.Goals as goal

pub overflow_add-result : goal.overflow_add-result
overflow_add-result t c = omega (
  arith,
  c.loop-node.invariant.counted,
  c.requires,
  length_step c.in-Choice.nodes.now c.loop-node.node-index c.node-item.result c.loop-node-test.true c.node-item.is,
  place_within (leaves c.node-item.result) (tag_of c.args.tag.now) c.in-Some.place (sym c.in-Some.ensures),
)

pub returns-in-Some : goal.returns-in-Some
returns-in-Some t c =
    sym (place_found (tag_of c.args.tag.now)
    c.loop-node.before c.in-Some.place c.in-Choice.nodes.now c.loop-node.node-index c.node-item.result c.loop-node-test.true c.node-item.is (sym c.in-Some.ensures))
    ∙ c.loop-node.invariant.passed

pub loop-node-preserved : goal.loop-node-preserved
loop-node-preserved t c =
    let count : length (leaves c.node-item.result) ≡ c.unwrap-before.result =
    counted_is (length (leaves c.node-item.result)) c.unwrap-before.result (sym c.leaf_count.ensures.counted ∙ c.unwrap-before.ensures) in
    record {
      counted = omega (arith, count, c.loop-node.invariant.counted, length_step c.in-Choice.nodes.now c.loop-node.node-index c.node-item.result c.loop-node-test.true c.node-item.is);
      passed =
          ap (λ k. position_from (tag_same (tag_of c.args.tag.now)) (c.loop-node.before + k) (leaves_of (drop (c.loop-node.node-index + 1) c.in-Choice.nodes.now))) (sym count)
          ∙ (sym (place_passed (tag_of c.args.tag.now) c.loop-node.before c.in-Choice.nodes.now c.loop-node.node-index c.node-item.result c.loop-node-test.true c.node-item.is
          (sym c.place.ensures ∙ c.in_default.is))
          ∙ c.loop-node.invariant.passed);
    }
