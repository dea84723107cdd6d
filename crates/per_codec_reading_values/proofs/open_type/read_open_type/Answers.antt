use Rattle.asn1_schema_laws.proofs.Joined.{raised}
use Rattle.per_codec_reading.specs.Fronts.{freedoms, is_aligned}
use Rattle.per_codec_reading.proofs.Fronts.{misses_also}
use Rattle.per_codec_reading.specs.Units.{counted_units}
use Rattle.per_codec_reading.specs.Runs.{units_in}
use Rattle.std.proofs.Common.{arith}
use Rattle.per_codec_reading.specs.Runs.{bits_in}
use Rattle.per_codec_reading.proofs.OctetFronts.{counted_size}
use Rattle.per_codec_reading_values.specs.Fields.{octets_form}
use Rattle.per_codec_reading_values.proofs.FieldFronts.{octets_read, no_octets_form}
use Rattle.per_codec_reading_values.proofs.open_type.read_open_type.Goals as goal

pub returns-in_err-run-clause-only : goal.returns-in_err-run-clause-only
returns-in_err-run-clause-only c = raised _ _ _ c.from_residual.ensures.1
    (misses_also (freedoms c.args.rules) (counted_units (is_aligned c.args.rules) 8) (octets_form (is_aligned c.args.rules)) c.args.cursor.now
    c.args.cursor.now _ (no_octets_form (freedoms c.args.rules) (is_aligned c.args.rules) c.args.cursor.now) c.in_err-run.ensures.only)

pub returns-clause-whole : goal.returns-clause-whole
returns-clause-whole c =
    let n = counted_size (freedoms c.args.rules) (is_aligned c.args.rules) 8 c.in_ok-run.run'.count (bits_in c.in_ok-run.run'.bits) c.args.cursor.now
    c.read_counted.new.cursor c.in_ok-run.ensures.ok in
    omega (arith, n)

pub returns-clause-lent : goal.returns-clause-lent
returns-clause-lent c =
    let n = counted_size (freedoms c.args.rules) (is_aligned c.args.rules) 8 c.in_ok-run.run'.count (bits_in c.in_ok-run.run'.bits) c.args.cursor.now
    c.read_counted.new.cursor c.in_ok-run.ensures.ok in
    (λ l. let k = c.in_ok-run.ensures.joined l in omega (arith, n, k), λ l. c.in_ok-run.ensures.lent (omega (arith, n, l)))

pub returns-clause-ok : goal.returns-clause-ok
returns-clause-ok c = octets_read (freedoms c.args.rules) (is_aligned c.args.rules) (units_in c.in_ok-run.run') c.args.cursor.now c.read_counted.new.cursor c.in_ok-run.ensures.ok
