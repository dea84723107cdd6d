use Rattle.std.proofs.Common.{◌+◌, arith, subst, sym, refl}
use Rattle.asn1_schema_laws.specs.Records.{presence_bit}
use Rattle.oer_codec_encoder.specs.Holding.{Does}
use Rattle.oer_codec_encoder.proofs.Refusals.{no_presence_bit_due}
use Rattle.oer_codec_encoder.proofs.Scopes.{presence_bit_within, does_presence_bit_absent, does_presence_bit_present, with_extension_byte, presence_bits_fit}
use Rattle.oer_codec_encoder.proofs.EarlierOctets.{keeps_same}
use Rattle.oer_codec_encoder.proofs.sequences.encode_presence_bit.Goals as goal

pub next_presence_bit-requires : goal.next_presence_bit-requires
next_presence_bit-requires c p k e = presence_bits_fit c.args.frames.now k p c.args.octets.now.items c.requires e

pub returns-in_default-clause-step : goal.returns-in_default-clause-step
returns-in_default-clause-step c = no_presence_bit_due c.args.frames.now c.args.octets.now.items c.args.present c.in_default.ensures.none

pub raise_bit-requires : goal.raise_bit-requires
raise_bit-requires c =
    let e = c.in-Some.ensures.some in
    let p = c.in-Some.preamble in
    let l = presence_bit_within c.args.frames.now e.0 p c.args.octets.now.items e.1 e.2 (p.given + c.from.result) c.requires (with_extension_byte p.given c.from.result p.extensible c.from.ensures) in
    omega (arith, l, c.args.octets.now.ok.0)

pub returns-then-present-clause-step : goal.returns-then-present-clause-step
returns-then-present-clause-step c =
    let e = c.in-Some.ensures.some in
    let p = c.in-Some.preamble in
    subst (λ b. Does (presence_bit b) c.args.frames.now c.args.octets.now.items c.next_presence_bit.new.self c.raise_bit.new.octets.items) (sym c.if-present.true)
    (does_presence_bit_present c.args.frames.now e.0 p c.args.octets.now.items e.1 e.2 c.next_presence_bit.new.self c.raise_bit.new.octets.items
    (p.given + c.from.result) e.3 (with_extension_byte p.given c.from.result p.extensible c.from.ensures) c.raise_bit.ensures.others c.raise_bit.ensures.bit c.type_inv.octets)

pub returns-else-present-clause-step : goal.returns-else-present-clause-step
returns-else-present-clause-step c =
    let e = c.in-Some.ensures.some in
    subst (λ b. Does (presence_bit b) c.args.frames.now c.args.octets.now.items c.next_presence_bit.new.self c.args.octets.now.items) (sym c.if-present.false)
    (does_presence_bit_absent c.args.frames.now e.0 c.in-Some.preamble c.args.octets.now.items e.1 e.2 c.next_presence_bit.new.self e.3)

pub returns-in_default-clause-kept : goal.returns-in_default-clause-kept
returns-in_default-clause-kept c = keeps_same _ _ _ _ c.in_default.ensures.still refl
