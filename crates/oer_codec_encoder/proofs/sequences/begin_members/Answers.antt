use Rattle.std.proofs.Common.{refl}
use Rattle.asn1_schema_constraints.specs.Bounds.{members_of}
use Rattle.asn1_schema_constraints.specs.Terms.{sizes_of}
use Rattle.asn1_schema_laws.specs.Records.{list_begins}
use Rattle.oer_codec_encoder.specs.Holding.{Cannot}
use Rattle.oer_codec_encoder.proofs.Refusals.{no_text, passed_on}
use Rattle.oer_codec_encoder.proofs.Scopes.{does_begin_members, no_begin_members}
use Rattle.asn1_values_bits.proofs.Refused.{though_refused}
use Rattle.oer_codec_writing.proofs.Fronts.{begins_text}
use Rattle.oer_codec_encoder.proofs.EarlierOctets.{keeps_behind}
use Rattle.oer_codec_encoder.proofs.sequences.begin_members.Goals as goal

pub returns-in_err-push_count-clause-step : goal.returns-in_err-push_count-clause-step
returns-in_err-push_count-clause-step c =
    let z = sizes_of c.args.constraints.now.size in
    let h = members_of c.args.held in
    let fs = c.args.frames.now in
    let o = c.args.octets.now.items in
    passed_on _ (Cannot (list_begins z h c.args.count) fs o) _ _ c.from_residual.ensures.0 c.from_residual.ensures.1
    (no_text (list_begins z h c.args.count) _ fs o c.in_err-push_count.field-0.0 (no_begin_members z h c.args.count) c.in_err-push_count.ensures.text)

pub returns-clause-step : goal.returns-clause-step
returns-clause-step c = does_begin_members c.args.frames.now c.open_small.new.self c.args.octets.now.items c.push_count.new.octets.items
    (sizes_of c.args.constraints.now.size) (members_of c.args.held) c.args.count c.in_ok-push_count.ensures.text c.in_ok-open_small.ensures.ok

pub returns-in_err-push_count-clause-kept : goal.returns-in_err-push_count-clause-kept
returns-in_err-push_count-clause-kept c = though_refused _ (keeps_behind _ _ _ _ refl c.in_err-push_count.ensures.kept)

pub returns-in_err-open_small-clause-kept : goal.returns-in_err-open_small-clause-kept
returns-in_err-open_small-clause-kept c =
    though_refused _ (keeps_behind _ _ _ _ c.in_err-open_small.ensures.kept (begins_text _ c.args.octets.now.items c.push_count.new.octets.items c.in_ok-push_count.ensures.text))
