use Rattle.std.proofs.Common.{◌∙◌, refl}
use Rattle.asn1_schema_constraints.specs.Bounds.{members_of}
use Rattle.asn1_schema_constraints.specs.Terms.{sizes_of}
use Rattle.asn1_schema_laws.specs.Records.{list_begins}
use Rattle.oer_codec_reading.specs.Fronts.{freedoms}
use Rattle.oer_codec_decoder.specs.Scopes.{scope_of}
use Rattle.oer_codec_decoder.proofs.Finding.{both_ok, opens, counted, no_list}
use Rattle.oer_codec_decoder.proofs.decoder.DecoderDecoder.begin_list.Goals as goal
use Rattle.oer_codec_decoder.proofs.Refused.{still_none_in, stays}

pub returns-in-Ok-clause-ok : goal.returns-in-Ok-clause-ok
returns-in-Ok-clause-ok c = both_ok c.enter.result c.enter.ensures.levels c.enter.ensures.scopes
    (λ l f n w. opens _ _ c.enter.new.self (scope_of c.in-Ok.frame) c.read_members.new.cursor
    (list_begins (sizes_of c.args._constraints.now.size) (members_of c.args.held) n) (c.self.view_is ∙ c.in_ok-begin_level.ensures.ok.1)
    c.in_ok-begin_level.ensures.ok.0 (counted (freedoms c.self.inside.rules) (members_of c.args.held) n (scope_of c.in-Ok.frame) c.self.inside.cursor
    c.read_members.new.cursor c.self.inside.scopes w c.in-Ok.ensures.ok) (λ most k. refl) l f)

pub returns-in-Err-clause-only : goal.returns-in-Err-clause-only
returns-in-Err-clause-only c = still_none_in (stays _ _ c.lack.new.self (c.self.view_is ∙ c.in_ok-begin_level.ensures.ok.1) c.lack.ensures.kept)
    (no_list _ _ (sizes_of c.args._constraints.now.size) (members_of c.args.held) _ _ (c.self.view_is ∙ c.in_ok-begin_level.ensures.ok.1) c.lack.ensures.refused c.in-Err.ensures.only)
