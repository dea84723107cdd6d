use Rattle.std.proofs.Common.{subst}
use Rattle.asn1_schema_constraints.specs.Terms.{size_of}
use Rattle.per_codec_laws.specs.Takes.{Position}
use Rattle.per_codec_reading.specs.Fronts.{freedoms, is_aligned}
use Rattle.per_codec_reading.specs.Headings.{contents_have_padding, sized_units}
use Rattle.per_codec_reading.specs.declared.sized.Contents.TheVariants.{Strings}
use Rattle.per_codec_decoder.specs.Missing.{StillTooShort}
use Rattle.per_codec_decoder.proofs.missing.missing_of_string_at.Goals as goal

pub returns : goal.returns
returns c = λ held. subst
    (λ (p : Position). StillTooShort (freedoms c.args.rules) (sized_units (is_aligned c.args.rules) (size_of c.args.sizes.now) held 8
    (contents_have_padding Strings 8)) p c.missing_of_string.result) c.cursor.ensures (c.missing_of_string.ensures held)
