use Rattle.std.proofs.Common.{ap, refl, sym, subst, ◌∙◌, ◌∷◌}
use Rattle.asn1_model.specs.Schema.{octet_string}
use Rattle.asn1_schema_constraints.specs.Bounds.{counts_of}
use Rattle.asn1_schema_constraints.specs.Terms.{size_of}
use Rattle.asn1_schema_laws.specs.Records.{octets}
use Rattle.per_codec_reading.specs.Fronts.{freedoms, is_aligned}
use Rattle.per_codec_reading.specs.Octets.{octets_of}
use Rattle.per_codec_decoder.proofs.Finding.{asked_octets, octets_within}
use Rattle.per_codec_decoder.proofs.Settling.{now_ready, steps}
use Rattle.asn1_model.specs.Per
use Rattle.per_codec_laws.specs.Takes.{Position}
use Rattle.per_codec_reading.specs.Headings.{contents_have_padding, sized_units}
use Rattle.per_codec_reading.specs.declared.sized.Contents.TheVariants.{Strings}
use Rattle.per_codec_decoder.specs.Missing.{StillTooShort}
use Rattle.per_codec_decoder.proofs.TooShort.{string_still_short}
use Rattle.per_codec_decoder.proofs.Lacking.{none_lacking}
use Rattle.per_codec_decoder.proofs.decoder.Decoder.find_octets.Goals as goal

pub returns-in-Ok-clause-ok : goal.returns-in-Ok-clause-ok
returns-in-Ok-clause-ok c = steps _ _ _ c.take_octet_string.new.self.place c.self.inside.scopes.scopes c.self.inside.levels
    (octets (size_of c.args.sizes) (counts_of c.args.held) (octets_of c.in-Ok.octets))
    (c.take_octet_string.new.self.storage ∷ c.self.inside.scopes.behind) c.self.view_is
    (now_ready _ _ c.self.view_is (sym c.is_some.ensures ∙ c.in_ok-go_on.ensures.ok)) (c.in-Ok.ensures.ok, refl) refl (ap (λ b. b ∷ c.self.inside.scopes.behind) c.in-Ok.ensures.storage) refl

pub returns-in-Ok-clause-held : goal.returns-in-Ok-clause-held
returns-in-Ok-clause-held c = octets_within (freedoms c.self.inside.rules) (is_aligned c.self.inside.rules) _ _ (size_of c.args.sizes) (counts_of c.args.held) _ c.in-Ok.ensures.ok

pub returns-in-Err-clause-only : goal.returns-in-Err-clause-only
returns-in-Err-clause-only c =
    let z = size_of c.args.sizes in
    let h = counts_of c.args.held in
    let v = c.self.inside.rules in
    let missing = λ (n : _). string_still_short (freedoms v) (is_aligned v) z h c.self.inside.place.place n in
    let short = subst (λ (p : Position). StillTooShort (freedoms v) (sized_units (is_aligned v) z h 8 (contents_have_padding Strings 8)) p
    c.missing_of_string_at-missing.result) c.in-Err.ensures.stays (c.missing_of_string_at-missing.ensures h) in
    none_lacking _ _ _ (octet_string z h) c.in-Err.error c.self.view_is c.lack_bits.ensures.refused c.lack_bits.ensures.kept c.in-Err.ensures.only
    (subst (λ n. StillTooShort (freedoms v) (Per.form (is_aligned v) (octet_string z h)) c.self.inside.place.place n)
    (sym c.lack_bits.ensures.told) (missing c.missing_of_string_at-missing.result short)) (λ al free a b. asked_octets al free a b z h)
