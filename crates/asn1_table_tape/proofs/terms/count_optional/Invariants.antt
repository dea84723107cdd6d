use Rattle.std.proofs.Common.{◌≡◌, ◌+◌, ◌≤◌, drop}
use Rattle.asn1_table_tape.specs.Terms.{optional_in}
use Rattle.asn1_table_tape.proofs.terms.count_optional.Given as goal

abbrev pub invariant-loop-component : goal.invariant-loop-component
invariant-loop-component l = (l.count + optional_in (drop l.component-index l.components) ≡ optional_in l.components) × (l.count ≤ l.component-index)
