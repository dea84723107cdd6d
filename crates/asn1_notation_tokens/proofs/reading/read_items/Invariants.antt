use Rattle.std.proofs.Common.{◌≡◌, ◌≤◌, ◌-◌, true, length, All}
use Rattle.std.specs.List.{list_all}
use Rattle.asn1_notation_tokens.specs.Lexical.{IsItemOf}
use Rattle.asn1_notation_tokens.specs.Spans.{is_inside}
use Rattle.asn1_notation_tokens.proofs.reading.read_items.Given as goal

-- The items that have been read are items of the text and inside it.
abbrev pub invariant-loop-offset : goal.invariant-loop-offset
invariant-loop-offset l = record {
  before : l.offset ≤ length l.text;
  items : All (IsItemOf l.text) l.list.items;
  inside : list_all (is_inside (length l.text)) l.list.items ≡ true;
}

abbrev pub decreases-loop-offset : goal.decreases-loop-offset
decreases-loop-offset l = length l.initial.text - l.offset
