use Rattle.std.proofs.Common.{◌≡◌, ◌+◌, ◌*◌, ◌-◌, ◌^◌}
use Rattle.asn1_schema.proofs.Author.{ReadsFrom}
use Rattle.asn1_schema_example.specs.Tree.{tree_schema, tree_meaning}
use Rattle.asn1_schema_example.proofs.tree.+reading.Given as goal

abbrev pub decreases-TreeConstructed::read_fields : goal.decreases-TreeConstructed::read_fields
decreases-TreeConstructed::read_fields g l = g.D.Decoder.levels l.decoder.now * 2 + 1

abbrev pub decreases-read_branches : goal.decreases-read_branches
decreases-read_branches g l = g.D.Decoder.levels l.decoder.now * 2

abbrev pub decreases-TreeDecode::decode_with_tag_and_constraints : goal.decreases-TreeDecode::decode_with_tag_and_constraints
decreases-TreeDecode::decode_with_tag_and_constraints g l = g.D.Decoder.levels l.decoder.now * 2

abbrev pub invariant-read_branches-loop-branches : goal.invariant-read_branches-loop-branches
invariant-read_branches-loop-branches g l = ReadsFrom g.D.Decoder.step g.D.Decoder.too_few_members tree_schema (g.D.Decoder.levels l.initial.decoder)
    tree_meaning l.branches.items l.initial.decoder l.decoder × (g.D.Decoder.levels l.decoder ≡ g.D.Decoder.levels l.initial.decoder) × (g.D.Decoder.has_failed l.decoder → ⊥)

abbrev pub decreases-read_branches-loop-branches : goal.decreases-read_branches-loop-branches
decreases-read_branches-loop-branches g l = 2 ^ 64 - l.branches.len
