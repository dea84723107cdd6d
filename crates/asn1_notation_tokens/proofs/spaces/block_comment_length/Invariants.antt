use Rattle.std.proofs.Common.{◌≤◌, ◌-◌, length}
use Rattle.asn1_notation_tokens.proofs.spaces.block_comment_length.Given as goal

abbrev pub invariant-loop-index : goal.invariant-loop-index
invariant-loop-index l = l.depth ≤ l.index

abbrev pub decreases-loop-index : goal.decreases-loop-index
decreases-loop-index l = length l.initial.rest - l.index
