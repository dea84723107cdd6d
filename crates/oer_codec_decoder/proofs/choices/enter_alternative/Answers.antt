use Rattle.asn1_schema_laws.proofs.Joined.{raised}
use Rattle.oer_codec_reading.specs.Fronts.{freedoms}
use Rattle.oer_codec_decoder.proofs.Choosing.{not_entered}
use Rattle.oer_codec_decoder.proofs.choices.enter_alternative.Goals as goal

pub returns-in_err-behind-clause-only : goal.returns-in_err-behind-clause-only
returns-in_err-behind-clause-only c = raised _ _ _ c.from_residual.ensures.1 (not_entered (freedoms c.args.rules) c.args.added c.args.cursor.now _ c.if-not-added.false c.in_err-behind.ensures.only)
