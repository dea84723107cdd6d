use Rattle.std.proofs.Common.{◌≡◌, length}
use Rattle.asn1_table_json_reading.proofs.reading.Reading.take_all.Given as goal

abbrev pub invariant-loop-token : goal.invariant-loop-token
invariant-loop-token l = (l.builder.types ≡ l.initial.builder.types) × (l.builder.place ≡ l.initial.builder.place)

abbrev pub decreases-loop-token : goal.decreases-loop-token
decreases-loop-token l = length l.reader
