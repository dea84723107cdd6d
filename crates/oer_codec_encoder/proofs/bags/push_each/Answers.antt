use Rattle.oer_codec_encoder.proofs.JoinedTexts.{text_next}
use Rattle.asn1_values_bits.proofs.Refused.{though_refused}
use Rattle.asn1_values_identifiers.proofs.Begins.{begins_behind, begins_same}
use Rattle.oer_codec_encoder.proofs.bags.push_each.Goals as goal

pub loop-entry-preserved : goal.loop-entry-preserved
loop-entry-preserved c = text_next c.args.octets.now.items c.loop-entry.octets.items c.extend_from_slice.new.self.items c.args.entries.now
    c.loop-entry.entry-index _ c.loop-entry-test.true c.loop-entry.invariant c.in_ok-extend_from_slice.ensures.items

pub returns-in_err-extend_from_slice-clause-kept : goal.returns-in_err-extend_from_slice-clause-kept
returns-in_err-extend_from_slice-clause-kept c = though_refused _ (begins_behind _ _ _ _ c.loop-entry.invariant (begins_same _ _ c.in_err-extend_from_slice.ensures.items))
