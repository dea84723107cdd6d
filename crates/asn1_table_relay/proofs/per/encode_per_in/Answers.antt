use Rattle.asn1_schema_encode.proofs.Written.{encoded, not_encoded}
use Rattle.asn1_table_walker.proofs.Told.{writes_records, cannot_write_records, encoded_all, not_encoded_all}
use Rattle.per_codec_encoder.specs.Stepping.{variant_of}
use Rattle.per_codec_encoder.specs.Written.{packed_rules}
use Rattle.per_codec_rules.specs.Variants.{is_aligned}
use Rattle.per_codec.proofs.Encoding.{written_all, refused_all}
use Rattle.asn1_table_relay.proofs.per.encode_per_in.Goals as goal

pub returns-in-Err-clause-only : goal.returns-in-Err-clause-only
returns-in-Err-clause-only c = record {
  none = λ s v i k. refused_all (is_aligned (variant_of c.args.options)) (λ _. s) v c.new_with_output-encoder.result c.in-Err.error c.refusal.result c.new_with_output-encoder.ensures i
      (cannot_write_records s v k c.in-Err.ensures.only)
      (record { length = c.refusal.ensures.length; platform = c.refusal.ensures.platform; place = c.refusal.ensures.place; others = c.refusal.ensures.others });
}

pub returns-in_ok-octets-in-Ok-clause-ok : goal.returns-in_ok-octets-in-Ok-clause-ok
returns-in_ok-octets-in-Ok-clause-ok c = encoded_all (packed_rules (is_aligned (variant_of c.args.options))) c.within_limit.result (λ s v i k.
    let w = written_all (is_aligned (variant_of c.args.options)) (λ _. s) v c.new_with_output-encoder.result c.replay.new.encoder c.new_with_output-encoder.ensures i
    (writes_records s v k c.in-Ok.ensures.ok) in
    encoded (packed_rules (is_aligned (variant_of c.args.options))) (λ _. s) v _ c.in_ok-octets-in-Ok.octets.items c.within_limit.result w.2
    (c.in_ok-octets-in-Ok.ensures.octets w.0 w.1) c.within_limit.ensures)

pub returns-in_ok-octets-in-Ok-clause-only : goal.returns-in_ok-octets-in-Ok-clause-only
returns-in_ok-octets-in-Ok-clause-only c = not_encoded_all (packed_rules (is_aligned (variant_of c.args.options))) c.within_limit.result (λ s v i k.
    let w = written_all (is_aligned (variant_of c.args.options)) (λ _. s) v c.new_with_output-encoder.result c.replay.new.encoder c.new_with_output-encoder.ensures i
    (writes_records s v k c.in-Ok.ensures.ok) in
    not_encoded (packed_rules (is_aligned (variant_of c.args.options))) (λ _. s) v _ c.in_ok-octets-in-Ok.octets.items c.within_limit.result w.2 w.3
    (c.in_ok-octets-in-Ok.ensures.octets w.0 w.1) c.within_limit.ensures)
