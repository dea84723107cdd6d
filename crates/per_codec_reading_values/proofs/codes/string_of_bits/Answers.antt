use Rattle.std.proofs.Common.{drop, inr, refl, ap, ◌∙◌}
use Rattle.asn1_values_bits.specs.BitStr.{bits_of}
use Rattle.per_codec_reading_values.proofs.Steps.{begins, enough, ends_without, goes_on, all_read}
use Rattle.per_codec_reading_values.proofs.codes.string_of_bits.Goals as goal

pub loop-place-init : goal.loop-place-init
loop-place-init g c = begins g.S.StaticPermittedAlphabet.kind c.args.alphabet.now c.args.count _ (bits_of c.args.codes) c.in-Ok.ensures c.requires.whole

pub first_number-code-requires-clause-within : goal.first_number-code-requires-clause-within
first_number-code-requires-clause-within g c =
    let e = enough g.S.StaticPermittedAlphabet.kind c.args.alphabet.now c.args.count c.loop-place.place _ _ (bits_of c.args.codes) c.loop-place.invariant c.loop-place-test.true in
    rw c.width-width.ensures.bits e

pub split_at-requires : goal.split_at-requires
split_at-requires g c =
    let e = enough g.S.StaticPermittedAlphabet.kind c.args.alphabet.now c.args.count c.loop-place.place _ _ (bits_of c.args.codes) c.loop-place.invariant c.loop-place-test.true in
    rw c.width-width.ensures.bits e

pub returns-in_default-permitted_character-clause-refused : goal.returns-in_default-permitted_character-clause-refused
returns-in_default-permitted_character-clause-refused g c =
    inr (ends_without g.S.StaticPermittedAlphabet.kind c.args.alphabet.now c.args.count c.loop-place.place _ _ (bits_of c.args.codes)
    c.loop-place.invariant c.loop-place-test.true _ c.first_number-code.result
    (rw c.width-width.ensures.bits at c.first_number-code.ensures.digits) (rw c.width-width.ensures.bits at c.first_number-code.ensures.fits) c.in_default-permitted_character.ensures.alone refl)

pub loop-place-preserved : goal.loop-place-preserved
loop-place-preserved g c =
    goes_on g.S.StaticPermittedAlphabet.kind c.args.alphabet.now c.args.count c.loop-place.place _ (bits_of c.loop-place.rest) (bits_of c.args.codes)
    c.loop-place.invariant c.loop-place-test.true _ c.first_number-code.result
    (rw c.width-width.ensures.bits at c.first_number-code.ensures.digits) (rw c.width-width.ensures.bits at c.first_number-code.ensures.fits)
    c.in-Some.ensures.alone c.in-Some.character (g.S.StaticPermittedAlphabet.characters c.push_char.new.self) _ c.in-Ok-push_char.ensures.pushed
    c.in-Some.ensures.permitted c.in-Some.ensures.found (c.split_at.ensures.rest ∙ ap (λ n. drop n (bits_of c.loop-place.rest)) c.width-width.ensures.bits)

pub returns-clause-count : goal.returns-clause-count
returns-clause-count g c =
    (all_read g.S.StaticPermittedAlphabet.kind c.args.alphabet.now c.args.count c.loop-place.place _ _ (bits_of c.args.codes) c.loop-place.invariant
    c.loop-place-test.false c.loop-place.auto.place-end).0

pub returns-clause-codes : goal.returns-clause-codes
returns-clause-codes g c =
    (all_read g.S.StaticPermittedAlphabet.kind c.args.alphabet.now c.args.count c.loop-place.place _ _ (bits_of c.args.codes) c.loop-place.invariant
    c.loop-place-test.false c.loop-place.auto.place-end).1
