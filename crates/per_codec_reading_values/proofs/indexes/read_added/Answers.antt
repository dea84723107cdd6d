use Rattle.asn1_schema_laws.proofs.Joined.{raised}
use Rattle.per_codec_reading.specs.Fronts.{freedoms, is_aligned}
use Rattle.per_codec_reading.proofs.Fronts.{misses_also}
use Rattle.per_codec_reading_values.specs.Indices.{small_form, added_form}
use Rattle.per_codec_reading_values.proofs.SmallFronts.{added_read, no_added, added_past}
use Rattle.per_codec_reading_values.proofs.indexes.read_added.Goals as goal

pub returns-in_err-place-clause-only : goal.returns-in_err-place-clause-only
returns-in_err-place-clause-only c = raised _ _ _ c.from_residual.ensures.1
    (misses_also (freedoms c.args.rules) (small_form (is_aligned c.args.rules)) (added_form (is_aligned c.args.rules) c.args.count) c.args.cursor.now
    c.args.cursor.now _ (no_added (freedoms c.args.rules) (is_aligned c.args.rules) c.args.count c.args.cursor.now c.ranges.count.fits) c.in_err-place.ensures.only)

pub returns-then-place-count-clause-only : goal.returns-then-place-count-clause-only
returns-then-place-count-clause-only c = added_past (freedoms c.args.rules) (is_aligned c.args.rules) c.args.count c.in_ok-place.place
    c.args.cursor.now c.read_normally_small.new.cursor c.if-place-count.true c.in_ok-place.ensures.ok

pub returns-clause-ok : goal.returns-clause-ok
returns-clause-ok c = added_read (freedoms c.args.rules) (is_aligned c.args.rules) c.args.count c.in_ok-place.place c.args.cursor.now
    c.read_normally_small.new.cursor c.if-place-count.false c.in_ok-place.ensures.ok
