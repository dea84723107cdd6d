use Rattle.std.proofs.Common.{◌≡◌, ◌-◌, ◌^◌}
use Rattle.asn1_schema_decode.proofs.Listing.{ReadsFrom}
use Rattle.asn1_schema_decode.proofs.lists.members_within.Given as goal

abbrev pub invariant-loop-items : goal.invariant-loop-items
invariant-loop-items g l = ReadsFrom g.D.Decoder.step g.D.Decoder.too_few_members g.T.Described.schema
    (g.D.Decoder.levels l.initial.decoder) g.T.Described.meaning l.items.items l.initial.decoder l.decoder
    × (g.D.Decoder.levels l.decoder ≡ g.D.Decoder.levels l.initial.decoder) × (l.held ≡ l.initial.held) × (g.D.Decoder.has_failed l.decoder → g.D.Decoder.has_failed l.initial.decoder)

abbrev pub decreases-loop-items : goal.decreases-loop-items
decreases-loop-items g l = 2 ^ 64 - l.items.len
