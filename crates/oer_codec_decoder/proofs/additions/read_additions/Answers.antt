use Rattle.asn1_schema_laws.proofs.Joined.{raised}
use Rattle.oer_codec_reading.specs.Fronts.{freedoms}
use Rattle.oer_codec_decoder.proofs.Adding.{no_bitmap}
use Rattle.oer_codec_decoder.proofs.additions.read_additions.Goals as goal

pub returns-in_err-bitmap-clause-only : goal.returns-in_err-bitmap-clause-only
returns-in_err-bitmap-clause-only c = raised _ _ _ c.from_residual.ensures.1
    (no_bitmap (freedoms c.args.rules) c.args.count c.args.cursor.now c.args.is_extended _ c.if-not-is_extended.false c.in_err-bitmap.ensures.only)
