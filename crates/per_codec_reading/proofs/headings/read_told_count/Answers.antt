use Rattle.std.proofs.Common.{◌-◌}
use Rattle.std.proofs.lemmas.Result.{err_from_is_err_and}
use Rattle.asn1_model.specs.Per
use Rattle.per_codec_reading.specs.Fronts.{freedoms, is_aligned}
use Rattle.per_codec_reading.proofs.Fronts.{misses_also}
use Rattle.per_codec_reading.specs.Headings.{told_count}
use Rattle.per_codec_reading.proofs.ToldFronts.{no_order, no_number}
use Rattle.per_codec_reading.proofs.headings.read_told_count.Goals as goal

pub returns-then-highest-lowest-clause-only : goal.returns-then-highest-lowest-clause-only
returns-then-highest-lowest-clause-only c = no_order (freedoms c.args.rules) (is_aligned c.args.rules) c.args.lowest c.args.highest c.args.cursor.now c.if-highest-lowest.true

pub returns-in_err-number-clause-only : goal.returns-in_err-number-clause-only
returns-in_err-number-clause-only c =
    let p = err_from_is_err_and c.from_residual.result c.from_residual.ensures.1 in
    let f = freedoms c.args.rules in
    let al = is_aligned c.args.rules in
    let a = c.args.cursor.now in
    rw (p.1, p.2) (misses_also f (Per.constrained al (c.args.highest - c.args.lowest)) (told_count al c.args.lowest c.args.highest) a a _
    (no_number f al c.args.lowest c.args.highest a) c.in_err-number.ensures.only)
