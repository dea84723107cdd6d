use Rattle.std.proofs.Common.{subst}
use Rattle.oer_codec_held_laws.specs.Held.{Held}
use Rattle.oer_codec_decoder.specs.Missing.{StillNoChoice}
use Rattle.oer_codec_reading.specs.Fronts.{freedoms}
use Rattle.oer_codec_decoder.proofs.decoder.Decoder.lack_choice.Goals as goal

pub returns-clause-short : goal.returns-clause-short
returns-clause-short c = subst (λ (h : Held). StillNoChoice (freedoms h.rules) c.args.tables.now.roots c.args.tables.now.extensible
    c.args.tables.now.additions c.args.octets.now c.missing_in_choice-self-inside.result) c.self.view_is c.missing_in_choice-self-inside.ensures
