use Rattle.std.proofs.lemmas.Result.{err_from_is_err_and}
use Rattle.per_codec_reading.specs.Fronts.{freedoms, is_aligned}
use Rattle.per_codec_reading.specs.Lengths.{length_form}
use Rattle.per_codec_reading.specs.Units.{counted_units}
use Rattle.per_codec_reading.proofs.Fronts.{misses_also, ok_also, err_also}
use Rattle.per_codec_reading.proofs.LastFronts.{lent_behind}
use Rattle.per_codec_reading.proofs.Loops.{no_first}
use Rattle.per_codec_reading.proofs.RunFronts.{no_length}
use Rattle.per_codec_reading.proofs.runs.read_counted.Goals as goal

pub returns-in_err-length-clause-only : goal.returns-in_err-length-clause-only
returns-in_err-length-clause-only c =
    let p = err_from_is_err_and c.from_residual.result c.from_residual.ensures.1 in
    let f = freedoms c.args.rules in
    let al = is_aligned c.args.rules in
    let w = c.args.width in
    let a = c.args.cursor.now in
    rw (p.1, p.2) (misses_also f (length_form al) (counted_units al w) a a _ (λ n. no_first f al w a (no_length f al w a n)) c.in_err-length.ensures.only)

pub returns-clause-ok : goal.returns-clause-ok
returns-clause-ok c = ok_also c.read_units_behind.result (λ run g. g c.args.cursor.now c.in_ok-length.ensures.ok) c.read_units_behind.ensures.ok

pub returns-clause-only : goal.returns-clause-only
returns-clause-only c = err_also c.read_units_behind.result (λ e g. g c.args.cursor.now c.in_ok-length.ensures.ok) c.read_units_behind.ensures.only

pub returns-clause-last : goal.returns-clause-last
returns-clause-last c = ok_also c.read_units_behind.result (λ run g.
    lent_behind (freedoms c.args.rules) _ run.bits c.args.cursor.now c.read_length.new.cursor c.read_units_behind.new.cursor c.in_ok-length.ensures.ok g) c.read_units_behind.ensures.last
