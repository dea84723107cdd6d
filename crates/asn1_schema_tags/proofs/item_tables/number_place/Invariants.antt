use Rattle.std.proofs.Common.{◌≡◌, ◌+◌, drop, option_map}
use Rattle.asn1_model.specs.Normal.{item_index}
use Rattle.asn1_schema_tags.proofs.item_tables.number_place.Given as goal

abbrev pub invariant-loop-place : goal.invariant-loop-place
invariant-loop-place l = option_map (λ k. l.place + k) (item_index l.wanted (drop l.place l.numbers)) ≡ item_index l.wanted l.numbers
