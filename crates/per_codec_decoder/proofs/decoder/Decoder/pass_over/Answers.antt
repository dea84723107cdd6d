use Rattle.std.proofs.Common.{refl, sym, ap, ◌∙◌, ◌∷◌}
use Rattle.asn1_schema_laws.proofs.Joined.{raised}
use Rattle.per_codec_reading.specs.Fronts.{freedoms, is_aligned}
use Rattle.per_codec_decoder.specs.Held.{stands_behind}
use Rattle.per_codec_decoder.proofs.Opening.{passed_on, not_passed_on, passed_unknown, not_passed_unknown, passed_open, not_passed_open}
use Rattle.per_codec_decoder.proofs.decoder.Decoder.pass_over.Goals as goal

pub returns-in_err-skip_unknown-in-Unknown-clause-only : goal.returns-in_err-skip_unknown-in-Unknown-clause-only
returns-in_err-skip_unknown-in-Unknown-clause-only c = raised _ _ _ c.from_residual.ensures.1
    (not_passed_on _ _ c.args.ending _ c.self.view_is (not_passed_unknown (is_aligned c.self.inside.rules) (freedoms c.self.inside.rules)
    c.args.ending c.in-Unknown.presence c.cursor-cursor.result c.self.inside.place.place _ c.in-Unknown.is c.cursor-cursor.ensures c.in_err-skip_unknown-in-Unknown.ensures.only))

pub returns-in_ok-skip_unknown-in-Unknown-clause-ok : goal.returns-in_ok-skip_unknown-in-Unknown-clause-ok
returns-in_ok-skip_unknown-in-Unknown-clause-ok c = passed_on _ _ _ c.args.ending _ c.self.view_is
    (ap (λ b. b ∷ c.self.inside.scopes.behind) c.move_to.ensures.storage ∙
    ap (λ e. stands_behind e (c.self.inside.place.storage ∷ c.self.inside.scopes.behind)) (sym c.in-Unknown.is)) refl
    (passed_unknown (is_aligned c.self.inside.rules) (freedoms c.self.inside.rules) c.args.ending c.in-Unknown.presence c.cursor-cursor.result
    c.skip_unknown.new.cursor c.self.inside.place.place c.move_to.new.self.place c.position-position.result c.in-Unknown.is c.cursor-cursor.ensures
    c.position-position.ensures c.in_ok-skip_unknown-in-Unknown.ensures.ok c.move_to.ensures.place)

pub returns-in_err-read_to_end-in-OpenType-clause-only : goal.returns-in_err-read_to_end-in-OpenType-clause-only
returns-in_err-read_to_end-in-OpenType-clause-only c = raised _ _ _ c.from_residual-in_err-read_to_end-in-OpenType.ensures.1
    (not_passed_on _ _ c.args.ending _ c.self.view_is (not_passed_open (is_aligned c.self.inside.rules) (freedoms c.self.inside.rules) c.args.ending
    c.in-OpenType.behind c.cursor.result c.self.inside.place.place _ c.in-OpenType.is c.cursor.ensures c.in_err-read_to_end-in-OpenType.ensures.only))

pub returns-in_ok-read_to_end-in-OpenType-clause-ok : goal.returns-in_ok-read_to_end-in-OpenType-clause-ok
returns-in_ok-read_to_end-in-OpenType-clause-ok c = passed_on _ _ _ c.args.ending _ c.self.view_is
    (ap (λ e. stands_behind e (c.self.inside.place.storage ∷ c.self.inside.scopes.behind)) (sym c.in-OpenType.is)) refl
    (passed_open (is_aligned c.self.inside.rules) (freedoms c.self.inside.rules) c.args.ending c.in-OpenType.behind c.cursor.result
    c.self.inside.place.place _ c.in-OpenType.is c.cursor.ensures c.in_ok-read_to_end-in-OpenType.ensures.ok refl)
