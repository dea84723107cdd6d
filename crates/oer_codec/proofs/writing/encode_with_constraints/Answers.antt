use Rattle.std.proofs.Common.{rules}
use Rattle.std.proofs.Common.{Some, Err, sym, ap}
use Rattle.asn1_schema_constraints.specs.Terms.{meant}
use Rattle.asn1_schema_encode.proofs.Written.{encoded, not_encoded}
use Rattle.oer_codec_encoder.specs.Written.{octet_rules}
use Rattle.oer_codec.proofs.Encoding.{not_failed, written_all, refused_all}
use Rattle.oer_codec.proofs.writing.encode_with_constraints.Goals as goal

pub returns-clause-only : goal.returns-clause-only
returns-clause-only g c = refused_all (g.T.Described.under (meant c.args.constraints.now)) (g.T.Described.meaning c.args.value.now)
    c.from_buffer-encoder.result _ c.in-Err.error c.refusal.result c.from_buffer-encoder.ensures c.in_ok-output.ensures.items
    (g.T.Described.valued_under (meant c.args.constraints.now) c.args.value.now) c.in-Err.ensures.only
    (record { length = c.refusal.ensures.length; platform = c.refusal.ensures.platform; place = c.refusal.ensures.place; others = c.refusal.ensures.others })

pub returns-in-Ok-clause-ok : goal.returns-in-Ok-clause-ok
returns-in-Ok-clause-ok g c =
    let w = written_all (g.T.Described.under (meant c.args.constraints.now)) (g.T.Described.meaning c.args.value.now) c.from_buffer-encoder.result
    c.encode_with_constraints.new.encoder _ c.from_buffer-encoder.ensures c.in_ok-output.ensures.items
    (g.T.Described.valued_under (meant c.args.constraints.now) c.args.value.now) c.in-Ok.ensures.ok in
    encoded octet_rules (g.T.Described.under (meant c.args.constraints.now)) (g.T.Described.meaning c.args.value.now)
    (Some c.encode_with_constraints.new.encoder.state.0) c.into_output.result.items c.within_limit.result w.2 (ap Some (sym (c.into_output.ensures.octets w.0 w.1))) c.within_limit.ensures

pub returns-in-Ok-clause-only : goal.returns-in-Ok-clause-only
returns-in-Ok-clause-only g c =
    let w = written_all (g.T.Described.under (meant c.args.constraints.now)) (g.T.Described.meaning c.args.value.now) c.from_buffer-encoder.result
    c.encode_with_constraints.new.encoder _ c.from_buffer-encoder.ensures c.in_ok-output.ensures.items
    (g.T.Described.valued_under (meant c.args.constraints.now) c.args.value.now) c.in-Ok.ensures.ok in
    not_encoded octet_rules (g.T.Described.under (meant c.args.constraints.now)) (g.T.Described.meaning c.args.value.now)
    (Some c.encode_with_constraints.new.encoder.state.0) c.into_output.result.items c.within_limit.result w.2 w.3 (ap Some (sym (c.into_output.ensures.octets w.0 w.1))) c.within_limit.ensures

pub returns-clause-kinds : goal.returns-clause-kinds
returns-clause-kinds g c =
    record { fresh = c.refusal.ensures.fresh (λ k. not_failed c.from_buffer-encoder.ensures (c.in-Err.ensures.call.after (ap Err k))); in_place = search rules; fits = search rules }
