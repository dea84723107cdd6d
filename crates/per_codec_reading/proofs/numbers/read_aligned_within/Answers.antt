use Rattle.std.proofs.lemmas.Result.{err_from_is_err_and}
use Rattle.asn1_model.specs.Per
use Rattle.per_codec_reading.specs.Fronts.{freedoms, is_aligned}
use Rattle.per_codec_reading.specs.Lengths.{number_within, aligned_within}
use Rattle.per_codec_reading.proofs.Fronts.{misses_also, ok_also, err_also}
use Rattle.per_codec_reading.proofs.NumberFronts.{aligned_read, none_aligned, none_padded}
use Rattle.per_codec_reading.proofs.numbers.read_aligned_within.Goals as goal

pub returns-in_err-read_padding-clause-only : goal.returns-in_err-read_padding-clause-only
returns-in_err-read_padding-clause-only c =
    let p = err_from_is_err_and c.from_residual.result c.from_residual.ensures.1 in
    let f = freedoms c.args.rules in
    let al = is_aligned c.args.rules in
    let a = c.args.cursor.now in
    rw (p.1, p.2) (misses_also f (Per.at_octet al) (aligned_within al c.args.bits c.args.most) a a _ (none_padded f al c.args.bits c.args.most a) c.in_err-read_padding.ensures.only)

pub returns-clause-ok : goal.returns-clause-ok
returns-clause-ok c = ok_also c.read_number_within.result (λ n.
    aligned_read (freedoms c.args.rules) (is_aligned c.args.rules) c.args.bits c.args.most n c.args.cursor.now c.read_padding.new.cursor
    c.read_number_within.new.cursor c.in_ok-read_padding.ensures.ok) c.read_number_within.ensures.ok

pub returns-clause-only : goal.returns-clause-only
returns-clause-only c =
    let f = freedoms c.args.rules in
    let al = is_aligned c.args.rules in
    let a = c.args.cursor.now in
    let m = c.read_padding.new.cursor in
    err_also c.read_number_within.result (λ e. misses_also f (number_within c.args.bits c.args.most) (aligned_within al c.args.bits c.args.most) m a e
    (none_aligned f al c.args.bits c.args.most a m c.in_ok-read_padding.ensures.ok)) c.read_number_within.ensures.only
