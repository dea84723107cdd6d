use Rattle.std.proofs.Common.{◌*◌, ◌<◌, length, ap, ◌∙◌, subst}
use Rattle.std.proofs.lemmas.Result.{err_from_is_err_and}
use Rattle.asn1_values_bits.specs.BitStr.{bits_of}
use Rattle.per_codec_reading.specs.Fronts.{freedoms, is_aligned}
use Rattle.per_codec_reading.specs.Lengths.{length_form}
use Rattle.per_codec_reading.proofs.Fronts.{misses_also}
use Rattle.per_codec_reading.specs.Units.{piece_form}
use Rattle.per_codec_reading.proofs.RunFronts.{piece_in, no_length, too_few}
use Rattle.per_codec_reading.proofs.runs.read_piece.Goals as goal

pub returns-in_err-length-clause-only : goal.returns-in_err-length-clause-only
returns-in_err-length-clause-only c =
    let p = err_from_is_err_and c.from_residual.result c.from_residual.ensures.1 in
    let f = freedoms c.args.rules in
    let al = is_aligned c.args.rules in
    let a = c.args.cursor.now in
    rw (p.1, p.2) (misses_also f (length_form al) (piece_form al c.args.width) a a _ (no_length f al c.args.width a) c.in_err-length.ensures.only)

pub returns-in_err-bits-clause-only : goal.returns-in_err-bits-clause-only
returns-in_err-bits-clause-only c =
    let p = err_from_is_err_and c.from_residual-in_err-bits.result c.from_residual-in_err-bits.ensures.1 in
    let q = c.in_err-bits.ensures.short in
    let mid = c.read_length.new.cursor in
    let few = subst (λ k. length mid.1 < k * c.args.width) c.count.ensures.count q.1 in
    rw (p.1, p.2, q.0) (too_few (freedoms c.args.rules) (is_aligned c.args.rules) c.args.width c.in_ok-length.length c.args.cursor.now mid c.in_ok-length.ensures.ok few)

pub returns-clause-ok : goal.returns-clause-ok
returns-clause-ok c =
    let q = c.in_ok-bits.ensures in
    piece_in (freedoms c.args.rules) (is_aligned c.args.rules) c.args.width c.in_ok-length.length (bits_of c.in_ok-bits.bits) c.args.cursor.now
    c.read_length.new.cursor c.take.new.self c.in_ok-length.ensures.ok q.bits (q.count ∙ ap (λ k. k * c.args.width) c.count.ensures.count)
