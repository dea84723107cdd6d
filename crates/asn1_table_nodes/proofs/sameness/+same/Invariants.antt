use Rattle.std.proofs.Common.{◌≡◌, ◌+◌, ◌≤◌, drop, length, map}
use Rattle.asn1_laws_values.proofs.Counts.{count}
use Rattle.asn1_model.specs.Value.{are_all, same, same_members, same_parts, values_of}
use Rattle.asn1_table_nodes.specs.Sameness.{is_among}
use Rattle.asn1_table_nodes.specs.Values.{part_of, parts_of, value_of}
use Rattle.asn1_table_nodes.proofs.EqualBags.{counts_agree}
use Rattle.asn1_table_nodes.proofs.sameness.+same.Given as goal

-- What holds of the rest holds of all.
abbrev pub invariant-are_same-loop-first : goal.invariant-are_same-loop-first
invariant-are_same-loop-first l =
    (same_members (values_of (map value_of l.first-iterator.a.rest.now)) (values_of (map value_of l.first-iterator.b.rest.now))
    ≡ same_members (values_of (map value_of l.firsts)) (values_of (map value_of l.seconds)))
    × (length l.first-iterator.a.rest.now ≡ length l.first-iterator.b.rest.now)

abbrev pub invariant-are_same_parts-loop-first : goal.invariant-are_same_parts-loop-first
invariant-are_same_parts-loop-first l =
    (same_parts (parts_of (map part_of l.first-iterator.a.rest.now)) (parts_of (map part_of l.first-iterator.b.rest.now))
    ≡ same_parts (parts_of (map part_of l.firsts)) (parts_of (map part_of l.seconds)))
    × (length l.first-iterator.a.rest.now ≡ length l.first-iterator.b.rest.now)

abbrev pub invariant-is_same_bag-loop-first : goal.invariant-is_same_bag-loop-first
invariant-is_same_bag-loop-first l =
    counts_agree (values_of (map value_of (drop l.first-index l.firsts))) (values_of (map value_of l.firsts)) (values_of (map value_of l.seconds))
    ≡ counts_agree (values_of (map value_of l.firsts)) (values_of (map value_of l.firsts)) (values_of (map value_of l.seconds))

abbrev pub invariant-are_among-loop-second : goal.invariant-are_among-loop-second
invariant-are_among-loop-second l =
    are_all (λ w. is_among (values_of (map value_of l.firsts)) w) (values_of (map value_of (drop l.second-index l.seconds)))
    ≡ are_all (λ w. is_among (values_of (map value_of l.firsts)) w) (values_of (map value_of l.seconds))

abbrev pub invariant-is_among-loop-first : goal.invariant-is_among-loop-first
invariant-is_among-loop-first l =
    is_among (values_of (map value_of (drop l.first-index l.firsts))) (value_of l.second) ≡ is_among (values_of (map value_of l.firsts)) (value_of l.second)

-- The count so far, with that of the rest, is that of all.
abbrev pub invariant-count_same-loop-other : goal.invariant-count_same-loop-other
invariant-count_same-loop-other l =
    (l.count + count (λ v. same (value_of l.value) v) (values_of (map value_of (drop l.other-index l.values))) ≡ count (λ v. same (value_of l.value) v) (values_of (map value_of l.values)))
    × (l.count ≤ l.other-index)
