use Rattle.std.proofs.Common.{◌≡◌}
use Rattle.asn1_schema_encode.proofs.Listing.{WritesFrom}
use Rattle.asn1_schema_encode.proofs.lists.encode_members.Given as goal

abbrev pub invariant-loop-item : goal.invariant-loop-item
invariant-loop-item g l = WritesFrom g.E.Encoder.step g.T.Described.schema g.T.Described.meaning l.items l.item-index l.initial.encoder l.encoder
    × (g.E.Encoder.has_failed l.encoder → g.E.Encoder.has_failed l.initial.encoder) × (g.E.Encoder.front l.encoder ≡ g.E.Encoder.front l.initial.encoder)
