use Rattle.std.proofs.Common.{◌≡◌, drop}
use Rattle.std.specs.List.{list_any}
use Rattle.asn1_schema_wrapped.proofs.set_of.place_of.Given as goal

abbrev pub invariant-loop-place : goal.invariant-loop-place
invariant-loop-place g l = list_any (λ y. g.T.PartialEq.eq y l.wanted) (drop l.place l.items) ≡ list_any (λ y. g.T.PartialEq.eq y l.wanted) l.items
