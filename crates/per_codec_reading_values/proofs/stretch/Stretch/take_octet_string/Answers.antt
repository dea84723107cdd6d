use Rattle.std.proofs.Common.{ap}
use Rattle.asn1_model.specs.Per
use Rattle.asn1_model.specs.Schema.{octet_string}
use Rattle.asn1_schema_constraints.specs.Bounds.{counts_of}
use Rattle.asn1_schema_constraints.specs.Terms.{size_of}
use Rattle.asn1_schema_laws.proofs.Joined.{raised}
use Rattle.per_codec_reading.specs.Fronts.{freedoms, is_aligned}
use Rattle.per_codec_reading_values.specs.Stretches.{Stretched}
use Rattle.per_codec_reading_values.proofs.Passing.{misses_at}
use Rattle.per_codec_reading_values.proofs.stretch.Stretch.take_octet_string.Goals as goal

pub returns-in_err-octets-clause-only : goal.returns-in_err-octets-clause-only
returns-in_err-octets-clause-only c = raised _ _ _ c.from_residual.ensures.1
    (misses_at (freedoms c.args.rules) (Per.form (is_aligned c.args.rules) (octet_string (size_of c.args.sizes) (counts_of c.args.held))) _ _ _
    (ap (λ (s : Stretched). s.place) c.self.view_is) c.in_err-octets.ensures.only)
