use Rattle.std.proofs.Common.{ap, ◌∙◌, refl, sym, pos}
use Rattle.std.proofs.lemmas.Int.{to_z-of_z}
use mir.Syntax.{w128}
use Rattle.asn1_values_natives.specs.Octets.{own_number, signed_by, unsigned_number}
use Rattle.asn1_values_natives.proofs.OctetLaws.{sign_free-false}
use Rattle.asn1_values_natives.proofs.TwosComplement.{signed-read}
use Rattle.oer_codec_reading.proofs.magnitudes.short_number.Goals as goal

pub returns-then-signed : goal.returns-then-signed
returns-then-signed c =
    to_z-of_z w128 c.number_by.result (record { sfits = c.number_by.type_inv })
    ∙ (c.number_by.ensures
    ∙ (ap (signed_by c.has_sign-negative.result) c.short_magnitude.ensures
    ∙ (signed-read c.args.octets.now c.args.octets.now c.has_sign-negative.result c.type_inv.octets c.has_sign-negative.ensures refl
    ∙ ap (λ s. own_number s c.args.octets.now) (sym c.if-signed.true))))

pub returns : goal.returns
returns c =
    to_z-of_z w128 c.number_by-2.result (record { sfits = c.number_by-2.type_inv })
    ∙ (c.number_by-2.ensures
    ∙ (ap pos (c.short_magnitude-2.ensures ∙ ap unsigned_number (sign_free-false c.args.octets.now))
    ∙ ap (λ s. own_number s c.args.octets.now) (sym c.if-signed.false)))
