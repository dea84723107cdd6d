use Rattle.std.proofs.Common.{rules}
use Rattle.std.proofs.Common.{Some, Err, sym, ap}
use Rattle.asn1_schema_encode.proofs.Written.{encoded, not_encoded}
use Rattle.oer_codec_encoder.specs.Written.{octet_rules}
use Rattle.oer_codec.proofs.Encoding.{not_failed, written_all, refused_all}
use Rattle.asn1_table_walker.proofs.Told.{writes_records, cannot_write_records, encoded_all, not_encoded_all}
use Rattle.asn1_table_relay.proofs.oer.encode_oer_in.Goals as goal

pub returns-clause-only : goal.returns-clause-only
returns-clause-only c = record {
  none = λ s v i k. refused_all (λ _. s) v c.from_buffer-encoder.result _ c.in-Err.error c.refusal.result c.from_buffer-encoder.ensures c.clear.ensures.items i
      (cannot_write_records s v k c.in-Err.ensures.only)
      (record { length = c.refusal.ensures.length; platform = c.refusal.ensures.platform; place = c.refusal.ensures.place; others = c.refusal.ensures.others });
}

pub returns-in-Ok-clause-ok : goal.returns-in-Ok-clause-ok
returns-in-Ok-clause-ok c = encoded_all octet_rules c.within_limit.result (λ s v i k.
    let w = written_all (λ _. s) v c.from_buffer-encoder.result c.replay.new.encoder _ c.from_buffer-encoder.ensures c.clear.ensures.items i (writes_records s v k c.in-Ok.ensures.ok) in
    encoded octet_rules (λ _. s) v (Some c.replay.new.encoder.state.0) c.into_output.result.items c.within_limit.result w.2
    (ap Some (sym (c.into_output.ensures.octets w.0 w.1))) c.within_limit.ensures)

pub returns-in-Ok-clause-only : goal.returns-in-Ok-clause-only
returns-in-Ok-clause-only c = not_encoded_all octet_rules c.within_limit.result (λ s v i k.
    let w = written_all (λ _. s) v c.from_buffer-encoder.result c.replay.new.encoder _ c.from_buffer-encoder.ensures c.clear.ensures.items i (writes_records s v k c.in-Ok.ensures.ok) in
    not_encoded octet_rules (λ _. s) v (Some c.replay.new.encoder.state.0) c.into_output.result.items c.within_limit.result w.2 w.3
    (ap Some (sym (c.into_output.ensures.octets w.0 w.1))) c.within_limit.ensures)

pub returns-clause-kinds : goal.returns-clause-kinds
returns-clause-kinds c =
    record { fresh = c.refusal.ensures.fresh (λ k. not_failed c.from_buffer-encoder.ensures (c.in-Err.ensures.after (ap Err k))); in_place = search rules; fits = search rules }
