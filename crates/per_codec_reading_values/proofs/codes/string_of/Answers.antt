use Rattle.std.proofs.Common.{◌≡◌, length, IfOk, IfErr, ◌⊎◌, sym, ◌∙◌, subst}
use Rattle.asn1_schema_errors.specs.declared.DecodeError.TheVariants.{OutOfMemory}
use Rattle.asn1_values_bits.specs.BitStr.{bits_of}
use Rattle.per_codec_reading_values.specs.CharacterCodes.{Stuck, IsFitting}
use Rattle.per_codec_reading_values.proofs.Steps.{octets_many}
use Rattle.per_codec_reading_values.proofs.codes.string_of.Goals as goal

pub returns-in-Some-clause-count : goal.returns-in-Some-clause-count
returns-in-Some-clause-count g c =
    let n : length c.in-Some.octets.now ≡ c.args.count = octets_many c.args.alphabet.now c.in-Some.octets.now c.args.count (bits_of c.args.codes)
    (sym c.width.ensures.bits ∙ c.if-width-eq8.true) c.in-Some.ensures.octets c.requires.whole in
    subst (λ m. IfOk c.string_of_octet_codes.result (λ s. length (g.S.StaticPermittedAlphabet.characters s) ≡ m)) n c.string_of_octet_codes.ensures.count

pub returns-in-Some-clause-refused : goal.returns-in-Some-clause-refused
returns-in-Some-clause-refused g c =
    let n : length c.in-Some.octets.now ≡ c.args.count = octets_many c.args.alphabet.now c.in-Some.octets.now c.args.count (bits_of c.args.codes)
    (sym c.width.ensures.bits ∙ c.if-width-eq8.true) c.in-Some.ensures.octets c.requires.whole in
    let r = subst (λ w. IfErr c.string_of_octet_codes.result (λ e.
    (e ≡ OutOfMemory) ⊎ (IsFitting c.args.alphabet.now → Stuck g.S.StaticPermittedAlphabet.kind c.args.alphabet.now (length c.in-Some.octets.now)
    w))) c.in-Some.ensures.octets c.string_of_octet_codes.ensures.refused in
    subst (λ m. IfErr c.string_of_octet_codes.result
    (λ e. (e ≡ OutOfMemory) ⊎ (IsFitting c.args.alphabet.now → Stuck g.S.StaticPermittedAlphabet.kind c.args.alphabet.now m (bits_of c.args.codes)))) n r
