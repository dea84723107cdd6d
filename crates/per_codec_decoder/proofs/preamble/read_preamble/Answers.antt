use Rattle.asn1_schema_laws.proofs.Joined.{raised}
use Rattle.per_codec_reading.specs.Fronts.{freedoms}
use Rattle.per_codec_reading_values.specs.Fields.{bits_form}
use Rattle.per_codec_reading_values.proofs.FieldFronts.{bits_told}
use Rattle.per_codec_decoder.proofs.Leading.{preamble, no_presence, missing_bit}
use Rattle.per_codec_reading.proofs.Fronts.{missed}
use Rattle.per_codec_decoder.proofs.preamble.read_preamble.Goals as goal

pub returns-in_err-extension_bit-clause-only : goal.returns-in_err-extension_bit-clause-only
returns-in_err-extension_bit-clause-only c = raised _ _ _ c.from_residual.ensures.1 (λ n s b.
    missing_bit (freedoms c.args.rules) c.args.extensible c.args.optional s c.args.place.now.place b c.in_err-extension_bit.ensures.only.0 c.in_err-extension_bit.ensures.only.1)

pub returns-in_err-presence-clause-only : goal.returns-in_err-presence-clause-only
returns-in_err-presence-clause-only c = raised _ _ _ c.from_residual-in_err-presence.ensures.1
    (λ n s b. no_presence (freedoms c.args.rules) c.args.extensible c.args.optional c.in_ok-extension_bit.extension_bit c.args.place.now.place
    c.read_extension_bit.new.place.place s b c.in_ok-extension_bit.ensures.there c.in_ok-extension_bit.ensures.bits
    (missed (freedoms c.args.rules) (bits_form c.args.optional) c.read_extension_bit.new.place.place _ c.in_err-presence.ensures.only n))

pub returns-clause-ok : goal.returns-clause-ok
returns-clause-ok c = let t = bits_told (freedoms c.args.rules) c.args.optional c.in_ok-presence.presence.place.1 c.read_extension_bit.new.place.place
    c.take_field.new.self.place c.in_ok-presence.ensures.ok in preamble (freedoms c.args.rules) c.args.extensible c.args.optional
    c.in_ok-extension_bit.extension_bit c.in_ok-presence.presence.place.1 c.args.place.now.place c.read_extension_bit.new.place.place
    c.take_field.new.self.place c.in_ok-extension_bit.ensures.there c.in_ok-extension_bit.ensures.bits t.1 t.0
