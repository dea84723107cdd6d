use Rattle.std.proofs.Common.{◌≡◌, ◌++◌, List, map, take, true}
use Rattle.asn1_model.specs.Lawful.{are_distinct, tag_same}
use Rattle.asn1_model.specs.Schema.{Tag as ModelTag}
use Rattle.asn1_schema_tags.specs.Tags.{tag_of}
use Rattle.asn1_table_types.specs.Choices.{Lists}
use Rattle.asn1_table_types.proofs.choice_tags.insert_tags.Given as goal

-- The table lists the tags so far.
abbrev pub invariant-loop-tag : goal.invariant-loop-tag
invariant-loop-tag l =
    (ts : List ModelTag) → Lists l.fn.places.items ts → are_distinct tag_same (ts ++ map tag_of l.tags) ≡ true
    → Lists l.places.items (ts ++ map tag_of (take l.tag-index l.tags))
