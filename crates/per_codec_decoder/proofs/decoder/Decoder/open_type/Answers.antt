use Rattle.std.proofs.Common.{◌≡◌, ◌∙◌, ◌∷◌, length, ap, sym, subst, refl}
use Rattle.per_codec_laws.specs.Takes.{Front}
use Rattle.per_codec_reading.specs.Fronts.{freedoms, is_aligned, IsFresh}
use Rattle.per_codec_reading.specs.Runs.{storage_inside}
use Rattle.per_codec_reading.proofs.Fronts.{misses_fresh}
use Rattle.per_codec_reading_values.specs.Fields.{octets_form}
use Rattle.per_codec_reading_values.specs.Stretches.{Stretched}
use Rattle.per_codec_decoder.proofs.Opening.{not_opened, opened}
use Rattle.per_codec_decoder.proofs.decoder.Decoder.open_type.Goals as goal

pub returns-in-Err-clause-only : goal.returns-in-Err-clause-only
returns-in-Err-clause-only c = not_opened _ _ c.in-Err.error _ c.self.view_is c.lack_bits.ensures.refused c.in-Err.ensures.only

pub returns-clause-ok : goal.returns-clause-ok
returns-clause-ok c = opened _ _ _ c.replace-behind.new.dest.place c.replace-behind.result.place c.take_open_type.new.self.place
    c.enclose.new.self.scopes c.replace-behind.new.dest.storage c.enclose.new.self.behind c.self.view_is
    (ap (λ (p : Stretched). p.place.0) c.replace-behind.ensures.after ∙ c.in-Ok.ensures.start)
    (subst (λ (p : Stretched). Front (freedoms c.self.inside.rules) (octets_form (is_aligned c.self.inside.rules) p.place.1) c.self.inside.place.place
    c.take_open_type.new.self.place) (sym c.replace-behind.ensures.after) c.in-Ok.ensures.ok)
    (ap (λ (p : Stretched). p.place) c.replace-behind.ensures.value) c.in-Ok-enclose.ensures.scopes
    (subst (λ (p : Stretched). p.storage ≡ storage_inside c.self.inside.place.storage (length p.place.1) c.take_open_type.new.self.place.0)
    (sym c.replace-behind.ensures.after) c.in-Ok.ensures.inside) (c.in-Ok-enclose.ensures.behind ∙
    ap (λ (p : Stretched). p.storage ∷ c.self.inside.scopes.behind) c.replace-behind.ensures.value ∙ ap (λ x. x ∷ c.self.inside.scopes.behind) c.in-Ok.ensures.storage) refl

pub returns-in-Err-clause-fresh : goal.returns-in-Err-clause-fresh
returns-in-Err-clause-fresh c = subst IsFresh (sym c.lack_bits.ensures.refused)
    (misses_fresh (freedoms c.self.inside.rules) (octets_form (is_aligned c.self.inside.rules)) c.self.inside.place.place c.in-Err.error c.in-Err.ensures.only)
