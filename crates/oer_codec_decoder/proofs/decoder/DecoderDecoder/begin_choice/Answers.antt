use Rattle.std.proofs.Common.{◌∙◌, refl}
use Rattle.asn1_schema_laws.specs.Records.{choice_begins}
use Rattle.oer_codec_decoder.specs.Scopes.{frame_of, scope_of}
use Rattle.oer_codec_decoder.proofs.Finding.{opens}
use Rattle.oer_codec_decoder.proofs.Lacking.{choice_short}
use Rattle.oer_codec_decoder.proofs.decoder.DecoderDecoder.begin_choice.Goals as goal

pub returns-in_ok-enter_enclosing-in-Ok-clause-ok : goal.returns-in_ok-enter_enclosing-in-Ok-clause-ok
returns-in_ok-enter_enclosing-in-Ok-clause-ok c = opens _ _ c.enter_enclosing.new.self (scope_of (frame_of c.in-Ok.enclosing))
    c.read_choice.new.cursor (choice_begins c.args.tables.now.roots c.args.tables.now.extensible c.args.tables.now.additions c.in-Ok.chosen.added
    c.in-Ok.chosen.place) (c.self.view_is ∙ c.in_ok-begin_level.ensures.ok.1) c.in_ok-begin_level.ensures.ok.0
    (c.in-Ok.ensures.ok c.self.inside.scopes) (λ most k. refl) c.in_ok-enter_enclosing-in-Ok.ensures.levels c.in_ok-enter_enclosing-in-Ok.ensures.scopes

pub returns-in-Err-clause-only : goal.returns-in-Err-clause-only
returns-in-Err-clause-only c =
    let same = c.self.view_is ∙ c.in_ok-begin_level.ensures.ok.1 in
    choice_short _ _ c.lack_choice.new.self c.args.tables.now.roots c.args.tables.now.extensible c.args.tables.now.additions _ _ same
    c.remaining-octets.ensures c.lack_choice.ensures.refused c.lack_choice.ensures.scopes c.in-Err.ensures.only c.lack_choice.ensures.short
