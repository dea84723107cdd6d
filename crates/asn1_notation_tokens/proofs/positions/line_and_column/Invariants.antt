use Rattle.std.proofs.Common.{◌≡◌, ◌<◌, ◌≤◌, ◌+◌, ◌^◌, length}
use Rattle.asn1_notation_tokens.specs.Positions.{line_at, column_at}
use Rattle.asn1_notation_tokens.proofs.positions.line_and_column.Given as goal

-- Line and column are those of the octet at the index, if the numbers fit.
abbrev pub invariant-loop-octet : goal.invariant-loop-octet
invariant-loop-octet l = length l.before < 2 ^ 63 → record {
  line : l.line ≡ line_at l.before l.octet-index;
  column : l.column ≡ column_at l.before l.octet-index;
  lines : l.line ≤ l.octet-index + 1;
  columns : l.column ≤ l.octet-index + 1;
}
