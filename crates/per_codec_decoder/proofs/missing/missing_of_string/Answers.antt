use Rattle.asn1_schema_constraints.specs.Terms.{size_of}
use Rattle.per_codec_reading.specs.Fronts.{freedoms, is_aligned}
use Rattle.per_codec_reading.specs.Headings.{contents_have_padding}
use Rattle.per_codec_reading.specs.declared.sized.Contents.TheVariants.{Strings}
use Rattle.per_codec_decoder.proofs.TooShort.{told_still_short, general_still_short}
use Rattle.per_codec_decoder.proofs.missing.missing_of_string.Goals as goal

pub returns-in-Constrained : goal.returns-in-Constrained
returns-in-Constrained c = λ held. told_still_short (freedoms c.args.rules) (is_aligned c.args.rules) 8 (size_of c.args.sizes) held
    (contents_have_padding Strings 8) c.in-Ok.heading c.in-Constrained.count c.args.cursor c.read_heading.new.cursor c.lacking.result c.in-Ok.ensures.ok c.in-Constrained.is c.lacking.ensures

pub returns-in-Ok-pass_fragment : goal.returns-in-Ok-pass_fragment
returns-in-Ok-pass_fragment c = λ held. general_still_short (freedoms c.args.rules) (is_aligned c.args.rules) 8 (size_of c.args.sizes) held
    (contents_have_padding Strings 8) c.in-Ok.heading c.in-General.length c.args.cursor c.read_heading.new.cursor c.missing_octets.result
    c.in-Ok.ensures.ok c.in-General.is (λ p g. c.in-Ok-pass_fragment.ensures.ok p c.missing_octets.result g c.missing_octets.ensures)

pub returns-in-Err : goal.returns-in-Err
returns-in-Err c = λ held. general_still_short (freedoms c.args.rules) (is_aligned c.args.rules) 8 (size_of c.args.sizes) held
    (contents_have_padding Strings 8) c.in-Ok.heading c.in-General.length c.args.cursor c.read_heading.new.cursor c.in-Err.missing c.in-Ok.ensures.ok c.in-General.is (λ p g. c.in-Err.ensures.only p g)
