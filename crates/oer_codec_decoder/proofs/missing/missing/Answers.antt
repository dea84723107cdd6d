use Rattle.std.proofs.Common.{sym, subst}
use Rattle.oer_codec_reading.specs.Fronts.{freedoms}
use Rattle.oer_codec_decoder.specs.Missing.{StillTooShort}
use Rattle.oer_codec_decoder.proofs.missing.missing.Goals as goal

pub returns-in-None : goal.returns-in-None
returns-in-None c = subst (λ s. StillTooShort (freedoms c.args.rules) s c.args.octets.now c.missing_behind_number.result) (sym c.in-None.is) c.missing_behind_number.ensures
