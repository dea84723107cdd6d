use Rattle.std.proofs.Common.{◌≡◌, ◌+◌, map, drop, option_map}
use Rattle.asn1_model.specs.Normal.{item_index}
use Rattle.asn1_schema_tags.proofs.enumerated.place_of.Given as goal

abbrev pub invariant-loop-place : goal.invariant-loop-place
invariant-loop-place g l = option_map (λ k. l.place + k) (item_index l.number (map g.T.Enumerated.number (drop l.place l.items))) ≡ item_index l.number (map g.T.Enumerated.number l.items)
