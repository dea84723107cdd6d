use Rattle.std.proofs.Common.{◌∙◌, refl, false}
use Rattle.asn1_schema_laws.specs.Records.{group_begins}
use Rattle.oer_codec_reading.specs.Fronts.{freedoms}
use Rattle.oer_codec_decoder.specs.Scopes.{scope_of}
use Rattle.oer_codec_decoder.proofs.Finding.{both_ok, opens, begins}
use Rattle.oer_codec_decoder.proofs.Records.{no_group}
use Rattle.oer_codec_decoder.proofs.decoder.DecoderDecoder.begin_group.Goals as goal
use Rattle.oer_codec_decoder.proofs.Refused.{still_none_in, stays}

pub returns-in-Ok-clause-ok : goal.returns-in-Ok-clause-ok
returns-in-Ok-clause-ok c = both_ok c.enter.result c.enter.ensures.levels c.enter.ensures.scopes
    (λ l f. opens _ _ c.enter.new.self (scope_of c.in-Ok.frame) c.read_preamble.new.cursor (group_begins c.args.optional)
    (c.self.view_is ∙ c.in_ok-begin_level.ensures.ok.1) c.in_ok-begin_level.ensures.ok.0
    (begins (freedoms c.self.inside.rules) false c.args.optional (scope_of c.in-Ok.frame) c.self.inside.cursor c.read_preamble.new.cursor c.self.inside.scopes c.in-Ok.ensures.ok) (λ most k. refl) l f)

pub returns-in-Err-clause-only : goal.returns-in-Err-clause-only
returns-in-Err-clause-only c = still_none_in (stays _ _ c.lack.new.self (c.self.view_is ∙ c.in_ok-begin_level.ensures.ok.1) c.lack.ensures.kept)
    (no_group _ _ c.args.optional _ (c.self.view_is ∙ c.in_ok-begin_level.ensures.ok.1) c.in-Err.ensures.only)
