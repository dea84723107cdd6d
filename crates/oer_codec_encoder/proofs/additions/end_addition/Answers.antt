use Rattle.std.proofs.Common.{arith, refl, sym}
use Rattle.oer_codec_encoder.proofs.AdditionScopes.{does_addition_end}
use Rattle.oer_codec_encoder.proofs.EndScopes.{open_within}
use Rattle.oer_codec_encoder.proofs.Refusals.{no_open_type, no_addition_end}
use Rattle.asn1_values_bits.proofs.Refused.{though_refused}
use Rattle.asn1_values_identifiers.proofs.Begins.{begins_same}
use Rattle.oer_codec_encoder.proofs.EarlierOctets.{ground_as, keeps_ground, keeps_room, keeps_same}
use Rattle.oer_codec_encoder.proofs.additions.end_addition.Goals as goal

pub returns-in_default-clause-step : goal.returns-in_default-clause-step
returns-in_default-clause-step c = no_open_type c.args.frames.now c.args.octets.now.items c.in_default.ensures.none

pub insert_length-requires : goal.insert_length-requires
insert_length-requires c =
    let l = open_within c.args.frames.now c.close_open_type.new.self c.args.octets.now.items c.in-Some.start c.requires c.in-Some.ensures.some in
    omega (arith, l, c.args.octets.now.ok.0)

pub returns-in_default-additions-clause-step : goal.returns-in_default-additions-clause-step
returns-in_default-additions-clause-step c = no_addition_end c.args.frames.now c.close_open_type.new.self c.args.octets.now.items c.in-Some.start
    c.in-Some.ensures.some c.in_default-additions.ensures.none

pub returns-clause-step : goal.returns-clause-step
returns-clause-step c =
    let a = c.in-Some-additions.ensures.some in
    does_addition_end c.args.frames.now c.close_open_type.new.self c.args.octets.now.items c.insert_length.new.octets.items c.in-Some.start
    c.in-Some.ensures.some _ a.0 a.1 c.in_ok-insert_length.ensures.text

pub returns-in_default-clause-kept : goal.returns-in_default-clause-kept
returns-in_default-clause-kept c = keeps_same _ _ _ _ c.in_default.ensures.still refl

pub returns-in_default-additions-clause-kept : goal.returns-in_default-additions-clause-kept
returns-in_default-additions-clause-kept c = keeps_ground c.args.frames.now c.close_open_type.new.self c.args.octets.now.items c.args.octets.now.items
    (begins_same _ _ (sym (ground_as _ _ c.args.octets.now.items c.in-Some.ensures.some)))

pub returns-in_err-insert_length-clause-kept : goal.returns-in_err-insert_length-clause-kept
returns-in_err-insert_length-clause-kept c = though_refused _
    (keeps_room c.args.frames.now c.close_open_type.new.self c.close_open_type.new.self c.args.octets.now.items c.insert_length.new.octets.items
    c.in-Some.start c.in-Some.ensures.some refl c.in_err-insert_length.ensures.kept)
