use Rattle.std.proofs.Common.{◌≡◌, vec_len}
use Rattle.asn1_table_building.proofs.pushing.TapeBuilder.put.Given as goal

abbrev pub invariant-loop-open : goal.invariant-loop-open
invariant-loop-open l = (l.builder.types ≡ l.initial.builder.types) × (l.builder.place ≡ l.initial.builder.place)

abbrev pub decreases-loop-open : goal.decreases-loop-open
decreases-loop-open l = vec_len l.builder.open
