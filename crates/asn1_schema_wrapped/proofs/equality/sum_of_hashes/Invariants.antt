use Rattle.std.proofs.Common.{◌≡◌, drop}
use Rattle.asn1_schema_wrapped.specs.Hashes.{hash_sum}
use Rattle.asn1_schema_wrapped.proofs.equality.sum_of_hashes.Given as goal

-- the hashes of what is left, added to the sum, are those of all items
abbrev pub invariant-loop-item : goal.invariant-loop-item
invariant-loop-item g l = hash_sum g.T.Hash.hash_input l.sum (drop l.item-index l.items) ≡ hash_sum g.T.Hash.hash_input 0 l.items
