use Rattle.std.proofs.Common.{None, subst}
use Rattle.oer_codec_reading.specs.Fronts.{freedoms}
use Rattle.oer_codec_decoder.specs.Missing.{StillTooShort}
use Rattle.oer_codec_decoder.proofs.Choosing.{no_entry_yet}
use Rattle.oer_codec_decoder.proofs.missing.missing_in_alternative.Goals as goal

pub returns : goal.returns
returns c = no_entry_yet (freedoms c.args.rules) c.args.added c.args.cursor.now c.missing_behind_number.result c.if-not-added.false
    (subst (λ l. StillTooShort (freedoms c.args.rules) None l c.missing_behind_number.result) c.remaining.ensures c.missing_behind_number.ensures)
