use Rattle.std.proofs.Common.{◌≡◌, ◌+◌, ◌-◌, ◌≤◌, drop, length, map, is_some}
use Rattle.asn1_model.specs.Lawful.{member_count}
use Rattle.asn1_model.specs.Value.{values_of}
use Rattle.asn1_table_nodes.specs.Values.{part_of, parts_of, value_of}
use Rattle.asn1_table_tape.specs.Values.{behind_added, behind_any, behind_each, behind_members, behind_nth, behind_root, count_on, counts_on}
use Rattle.asn1_table_tape.proofs.defaults.+behind.Given as goal

-- What comes after the rest comes after all.
abbrev pub invariant-behind_elements-loop-element : goal.invariant-behind_elements-loop-element
invariant-behind_elements-loop-element l =
    behind_members (values_of (map value_of (drop l.element-index l.elements))) l.rest ≡ behind_members (values_of (map value_of l.elements)) l.value

abbrev pub invariant-behind_root-loop-part : goal.invariant-behind_root-loop-part
invariant-behind_root-loop-part l = behind_root (parts_of (map part_of (drop l.part-index l.parts))) l.rest ≡ behind_root (parts_of (map part_of l.parts)) l.value

abbrev pub invariant-behind_added-loop-part : goal.invariant-behind_added-loop-part
invariant-behind_added-loop-part l = behind_added (parts_of (map part_of (drop l.part-index l.parts))) l.rest ≡ behind_added (parts_of (map part_of l.parts)) l.value

abbrev pub invariant-behind_any-loop-element : goal.invariant-behind_any-loop-element
invariant-behind_any-loop-element l = behind_any (values_of (map value_of (drop l.element-index l.elements))) l.value ≡ behind_any (values_of (map value_of l.elements)) l.value

abbrev pub invariant-behind_nth-loop-element : goal.invariant-behind_nth-loop-element
invariant-behind_nth-loop-element l = behind_nth (drop l.element-index l.elements) l.before l.value ≡ behind_nth l.elements l.index l.value

-- As many elements are still to come.
abbrev pub invariant-behind_each-loop-taken : goal.invariant-behind_each-loop-taken
invariant-behind_each-loop-taken l =
    behind_each (length l.elements - l.taken) (λ r. behind_any (values_of (map value_of l.elements)) r) l.rest ≡ behind_each (length l.elements) (λ r. behind_any (values_of (map value_of l.elements)) r) l.value

-- The count so far, with that of the rest, is that of all.
abbrev pub invariant-count_on-loop-taken : goal.invariant-count_on-loop-taken
invariant-count_on-loop-taken l =
    (l.count + count_on (length l.elements - l.taken) (λ r. behind_any (values_of (map value_of l.elements)) r) (λ r. is_some (behind_nth l.elements l.index r)) l.rest
    ≡ count_on (length l.elements) (λ r. behind_any (values_of (map value_of l.elements)) r) (λ r. is_some (behind_nth l.elements l.index r)) l.value)
    × (l.count ≤ l.taken)

-- What holds of the rest holds of all.
abbrev pub invariant-behind_bag-loop-index : goal.invariant-behind_bag-loop-index
invariant-behind_bag-loop-index l =
    let vs = values_of (map value_of l.elements) in
    counts_on (values_of (map value_of (drop l.index l.elements))) vs (member_count vs) (λ r. behind_any vs r) l.value ≡ counts_on vs vs (member_count vs) (λ r. behind_any vs r) l.value
