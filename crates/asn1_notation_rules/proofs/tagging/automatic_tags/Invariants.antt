use Rattle.std.proofs.Common.{◌≡◌, ℕ, ◌+◌, ◌<◌, not, length, take, get_or}
use Rattle.std.specs.List.{count_by}
use Rattle.asn1_schema_tags.specs.Tags.{tag_of}
use Rattle.asn1_schema_tags.specs.declared.tags.Tag.{Tag}
use Rattle.asn1_notation_rules.specs.Tags.{automatic_number, context_tag}
use Rattle.asn1_notation_rules.proofs.Counting.{yes}
use Rattle.asn1_notation_rules.proofs.tagging.automatic_tags.Given as goal

-- The components so far have their tags, and the next ones of either kind are numbered.
abbrev pub invariant-loop-is_added : goal.invariant-loop-is_added
invariant-loop-is_added l = record {
  root : l.root ≡ count_by not (take l.is_added-index l.are_added);
  added : l.added ≡ count_by not l.are_added + count_by yes (take l.is_added-index l.are_added);
  count : length l.tags.items ≡ l.is_added-index;
  tag : (k : ℕ) (d : Tag) → k < l.is_added-index → tag_of (get_or l.tags.items k d) ≡ context_tag (automatic_number l.are_added k);
}
