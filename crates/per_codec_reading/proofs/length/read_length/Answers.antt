use Rattle.std.proofs.Common.{false}
use Rattle.std.proofs.lemmas.Result.{err_from_is_err_and}
use Rattle.asn1_model.specs.Per
use Rattle.per_codec_reading.specs.Fronts.{freedoms, is_aligned}
use Rattle.per_codec_reading.specs.Lengths.{length_form}
use Rattle.per_codec_reading.proofs.Fronts.{misses_also, ok_also, err_also}
use Rattle.per_codec_reading.proofs.LengthFronts.{length_after, no_length_behind, no_length_at_all}
use Rattle.per_codec_reading.proofs.length.read_length.Goals as goal

pub returns-in_err-read_padding-clause-only : goal.returns-in_err-read_padding-clause-only
returns-in_err-read_padding-clause-only c =
    let p = err_from_is_err_and c.from_residual.result c.from_residual.ensures.1 in
    let f = freedoms c.args.rules in
    let al = is_aligned c.args.rules in
    let a = c.args.cursor.now in
    rw (p.1, p.2) (misses_also f (Per.at_octet al) (length_form al) a a _ (no_length_at_all f al a) c.in_err-read_padding.ensures.only)

pub returns-clause-ok : goal.returns-clause-ok
returns-clause-ok c = ok_also c.read_unaligned_length.result
    (λ l. length_after (freedoms c.args.rules) (is_aligned c.args.rules) l c.args.cursor.now c.read_padding.new.cursor
    c.read_unaligned_length.new.cursor c.in_ok-read_padding.ensures.ok) c.read_unaligned_length.ensures.ok

pub returns-clause-only : goal.returns-clause-only
returns-clause-only c =
    let f = freedoms c.args.rules in
    let al = is_aligned c.args.rules in
    let a = c.args.cursor.now in
    let m = c.read_padding.new.cursor in
    err_also c.read_unaligned_length.result (λ e. misses_also f (length_form false) (length_form al) m a e
    (no_length_behind f al a m c.in_ok-read_padding.ensures.ok)) c.read_unaligned_length.ensures.only
