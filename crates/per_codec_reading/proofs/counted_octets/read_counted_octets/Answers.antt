use Rattle.std.proofs.Common.{arith}
use Rattle.std.proofs.lemmas.Result.{err_from_is_err_and}
use Rattle.asn1_model.specs.Per
use Rattle.per_codec_reading.specs.Fronts.{freedoms, is_aligned}
use Rattle.per_codec_reading.proofs.Fronts.{misses_also}
use Rattle.per_codec_reading.specs.Octets.{octets_of}
use Rattle.per_codec_reading.specs.Units.{counted_units}
use Rattle.per_codec_reading.specs.Runs.{units_in, bits_in}
use Rattle.per_codec_reading.proofs.OctetFronts.{counted_size, octets_front, no_octets}
use Rattle.per_codec_reading.proofs.counted_octets.read_counted_octets.Goals as goal

pub returns-in_err-units-clause-only : goal.returns-in_err-units-clause-only
returns-in_err-units-clause-only c =
    let p = err_from_is_err_and c.from_residual.result c.from_residual.ensures.1 in
    let f = freedoms c.args.rules in
    let al = is_aligned c.args.rules in
    let a = c.args.cursor.now in
    rw (p.1, p.2) (misses_also f (counted_units al 8) (Per.counted_octets al) a a _ (no_octets f al a) c.in_err-units.ensures.only)

pub into_octets-requires : goal.into_octets-requires
into_octets-requires c =
    let run = c.in_ok-units.units in
    let n = counted_size (freedoms c.args.rules) (is_aligned c.args.rules) 8 run.count (bits_in run.bits) c.args.cursor.now c.read_counted.new.cursor c.in_ok-units.ensures.ok in
    omega arith

pub returns-clause-ok : goal.returns-clause-ok
returns-clause-ok c =
    let run = c.in_ok-units.units in
    octets_front (freedoms c.args.rules) (is_aligned c.args.rules) (units_in run) (octets_of c.in_ok-octets.octets) c.args.cursor.now
    c.read_counted.new.cursor c.in_ok-units.ensures.ok c.in_ok-octets.ensures.small c.in_ok-octets.ensures.octets
