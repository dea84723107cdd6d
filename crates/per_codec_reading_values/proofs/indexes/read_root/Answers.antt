use Rattle.asn1_schema_laws.proofs.Joined.{raised}
use Rattle.per_codec_reading.specs.Fronts.{freedoms, is_aligned}
use Rattle.std.proofs.Common.{◌-◌}
use Rattle.asn1_model.specs.Per
use Rattle.per_codec_reading.proofs.Fronts.{misses_also}
use Rattle.per_codec_reading_values.specs.Indices.{root_form}
use Rattle.per_codec_reading_values.proofs.IndexFronts.{root_read, no_root, none_of_none}
use Rattle.per_codec_reading_values.proofs.indexes.read_root.Goals as goal

pub returns-then-count-eq0-clause-only : goal.returns-then-count-eq0-clause-only
returns-then-count-eq0-clause-only c = none_of_none (freedoms c.args.rules) (is_aligned c.args.rules) c.args.count c.args.cursor.now c.if-count-eq0.true

pub returns-in_err-place-clause-only : goal.returns-in_err-place-clause-only
returns-in_err-place-clause-only c = raised _ _ _ c.from_residual.ensures.1
    (misses_also (freedoms c.args.rules) (Per.constrained (is_aligned c.args.rules) (c.args.count - 1))
    (root_form (is_aligned c.args.rules) c.args.count) c.args.cursor.now c.args.cursor.now _
    (no_root (freedoms c.args.rules) (is_aligned c.args.rules) c.args.count c.args.cursor.now) c.in_err-place.ensures.only)

pub returns-clause-ok : goal.returns-clause-ok
returns-clause-ok c = root_read (freedoms c.args.rules) (is_aligned c.args.rules) c.args.count c.in_ok-place.place c.args.cursor.now
    c.read_constrained.new.cursor c.if-count-eq0.false c.in_ok-place.ensures.bound c.in_ok-place.ensures.ok
