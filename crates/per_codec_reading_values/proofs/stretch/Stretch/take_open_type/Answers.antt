use Rattle.std.proofs.Common.{ap}
use Rattle.asn1_schema_laws.proofs.Joined.{raised}
use Rattle.per_codec_reading.specs.Fronts.{freedoms, is_aligned}
use Rattle.per_codec_reading_values.specs.Fields.{octets_form}
use Rattle.per_codec_reading_values.specs.Stretches.{Stretched}
use Rattle.per_codec_reading_values.proofs.Passing.{misses_at}
use Rattle.per_codec_reading_values.proofs.stretch.Stretch.take_open_type.Goals as goal

pub returns-in_err-bits-clause-only : goal.returns-in_err-bits-clause-only
returns-in_err-bits-clause-only c = raised _ _ _ c.from_residual.ensures.1
    (misses_at (freedoms c.args.rules) (octets_form (is_aligned c.args.rules)) _ _ _ (ap (λ (s : Stretched). s.place) c.self.view_is) c.in_err-bits.ensures.only)
