use Rattle.std.proofs.Common.{◌≡◌, ◌∷◌, subst, sym, arith, ◌/◌, refl, ◌∙◌}
use Rattle.asn1_schema_laws.specs.Records.{addition}
use Rattle.oer_codec_encoder.specs.declared.frame.Frame.TheVariants.{Added}
use Rattle.oer_codec_encoder.specs.Frames.{with_next}
use Rattle.oer_codec_encoder.specs.Holding.{Does}
use Rattle.oer_codec_encoder.proofs.AdditionScopes.{additions_fit, bit_within, does_no_addition, does_addition}
use Rattle.oer_codec_encoder.proofs.Refusals.{no_addition_due}
use Rattle.asn1_values_bits.proofs.Refused.{though_refused}
use Rattle.oer_codec_encoder.proofs.EarlierOctets.{ground_as, keeps_raised, keeps_same}
use Rattle.oer_codec_encoder.proofs.additions.encode_addition.Goals as goal

pub next_addition-requires : goal.next_addition-requires
next_addition-requires c a k e = additions_fit c.args.frames.now k a c.args.octets.now.items c.requires e

pub returns-in_default-clause-step : goal.returns-in_default-clause-step
returns-in_default-clause-step c = no_addition_due c.args.frames.now c.args.octets.now.items c.args.present c.in_default.ensures.none

pub raise_bit-requires : goal.raise_bit-requires
raise_bit-requires c =
    let e = c.in-Some.ensures.some in
    let l = bit_within c.args.frames.now e.0 c.in-Some.additions c.args.octets.now.items e.1 e.2 c.requires in
    omega (arith, l, c.args.octets.now.ok.0)

pub returns-in_ok-open_in_place-clause-step : goal.returns-in_ok-open_in_place-clause-step
returns-in_ok-open_in_place-clause-step c =
    let e = c.in-Some.ensures.some in
    let a = c.in-Some.additions in
    subst (λ b. Does (addition b) c.args.frames.now c.args.octets.now.items c.open_in_place.new.frames c.open_in_place.new.octets.items) (sym c.if-present.true)
    (does_addition c.args.frames.now e.0 a c.args.octets.now.items e.1 e.2 c.next_addition.new.self c.open_in_place.new.frames c.raise_bit.new.octets.items c.open_in_place.new.octets.items
    (subst (λ b. c.next_addition.new.self ≡ Added (with_next b a) ∷ e.0) c.if-present.true e.3) c.raise_bit.ensures.others c.raise_bit.ensures.bit
    c.type_inv.octets c.in_ok-open_in_place.ensures.octets c.in_ok-open_in_place.ensures.frames)

pub returns-else-present-clause-step : goal.returns-else-present-clause-step
returns-else-present-clause-step c =
    let e = c.in-Some.ensures.some in
    let a = c.in-Some.additions in
    subst (λ b. Does (addition b) c.args.frames.now c.args.octets.now.items c.next_addition.new.self c.args.octets.now.items) (sym c.if-present.false)
    (does_no_addition c.args.frames.now e.0 a c.args.octets.now.items e.1 e.2 c.next_addition.new.self (subst (λ b. c.next_addition.new.self ≡ Added (with_next b a) ∷ e.0) c.if-present.false e.3))

pub returns-in_default-clause-kept : goal.returns-in_default-clause-kept
returns-in_default-clause-kept c = keeps_same _ _ _ _ c.in_default.ensures.still refl

pub returns-in_err-open_in_place-clause-kept : goal.returns-in_err-open_in_place-clause-kept
returns-in_err-open_in_place-clause-kept c = though_refused _ (let e = c.in-Some.ensures.some in let a = c.in-Some.additions in
    keeps_raised c.args.frames.now e.0 c.open_in_place.new.frames a c.args.octets.now.items c.raise_bit.new.octets.items
    c.open_in_place.new.octets.items (a.given / 8) _ e.1 (ground_as _ _ c.open_in_place.new.octets.items (c.in_err-open_in_place.ensures.still ∙ e.3))
    c.raise_bit.ensures.others c.in_err-open_in_place.ensures.kept)
