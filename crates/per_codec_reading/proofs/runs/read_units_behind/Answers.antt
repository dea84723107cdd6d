use Rattle.std.proofs.Common.{◌≡◌, ◌*◌, ◌<◌, length, sym, subst}
use Rattle.std.proofs.lemmas.Result.{err_from_is_err_and}
use Rattle.asn1_values_bits.specs.BitStr.{bits_of}
use Rattle.per_codec_laws.specs.Takes.{Front}
use Rattle.per_codec_reading.specs.Fronts.{freedoms, is_aligned}
use Rattle.per_codec_reading.proofs.Fronts.{misses_also}
use Rattle.per_codec_reading.specs.Units.{counted_units, count_of, piece_form, units_after}
use Rattle.asn1_model.specs.Per
use Rattle.per_codec_reading.proofs.Loops.{short_run, long_run, no_first, no_further}
use Rattle.per_codec_reading.proofs.RunFronts.{piece_in, too_few}
use Rattle.per_codec_reading.proofs.runs.read_units_behind.Goals as goal

pub returns-in_err-bits-in-Short-clause-only : goal.returns-in_err-bits-in-Short-clause-only
returns-in_err-bits-in-Short-clause-only c =
    let p = err_from_is_err_and c.from_residual.result c.from_residual.ensures.1 in
    let q = c.in_err-bits-in-Short.ensures.short in
    let f = freedoms c.args.rules in
    let al = is_aligned c.args.rules in
    let w = c.args.width in
    let mid = c.args.cursor.now in
    let few = subst (λ l. length mid.1 < count_of l * w) (sym c.in-Short.is) q.1 in
    rw (p.1, p.2, q.0) (λ a front. no_first f al w a (too_few f al w c.args.length a mid front few))

pub returns-in_err-bits-in-Fragment-clause-only : goal.returns-in_err-bits-in-Fragment-clause-only
returns-in_err-bits-in-Fragment-clause-only c =
    let p = err_from_is_err_and c.from_residual-in_err-bits-in-Fragment.result c.from_residual-in_err-bits-in-Fragment.ensures.1 in
    let q = c.in_err-bits-in-Fragment.ensures.short in
    let f = freedoms c.args.rules in
    let al = is_aligned c.args.rules in
    let w = c.args.width in
    let mid = c.args.cursor.now in
    let few = subst (λ l. length mid.1 < count_of l * w) (sym c.in-Fragment.is) q.1 in
    rw (p.1, p.2, q.0) (λ a front. no_first f al w a (too_few f al w c.args.length a mid front few))

pub returns-in_err-all-in-Fragment-clause-only : goal.returns-in_err-all-in-Fragment-clause-only
returns-in_err-all-in-Fragment-clause-only c =
    let p = err_from_is_err_and c.from_residual-in_err-all-in-Fragment.result c.from_residual-in_err-all-in-Fragment.ensures.1 in
    let f = freedoms c.args.rules in
    let al = is_aligned c.args.rules in
    let w = c.args.width in
    let xs = bits_of c.in_ok-bits-in-Fragment.bits in
    let old = c.args.cursor.now in
    let mid = c.take-in-Fragment.new.self in
    let l = subst (λ l. length xs ≡ count_of l * w) (sym c.in-Fragment.is) c.in_ok-bits-in-Fragment.ensures.count in
    rw (p.1, p.2) (λ a front.
    let piece = subst (λ l. Front f (piece_form al w (l, xs)) a mid) c.in-Fragment.is (piece_in f al w c.args.length xs a old mid front c.in_ok-bits-in-Fragment.ensures.bits l) in
    misses_also f (units_after (f Per.other_fragments) c.in-Fragment.multiple al w) (counted_units al w) mid a _
    (no_further f al w c.in-Fragment.multiple xs a mid piece) c.in_err-all-in-Fragment.ensures.only)

pub returns-in_ok-bits-in-Short-clause-ok : goal.returns-in_ok-bits-in-Short-clause-ok
returns-in_ok-bits-in-Short-clause-ok c = λ a front.
    let f = freedoms c.args.rules in
    let al = is_aligned c.args.rules in
    let w = c.args.width in
    let xs = bits_of c.in_ok-bits-in-Short.bits in
    let mid = c.take.new.self in
    let l = subst (λ l. length xs ≡ count_of l * w) (sym c.in-Short.is) c.in_ok-bits-in-Short.ensures.count in
    let piece = subst (λ l. Front f (piece_form al w (l, xs)) a mid) c.in-Short.is (piece_in f al w c.args.length xs a c.args.cursor.now mid front c.in_ok-bits-in-Short.ensures.bits l) in
    short_run f al w c.in-Short.count xs a mid piece

pub returns-in_ok-all-in-Fragment-clause-ok : goal.returns-in_ok-all-in-Fragment-clause-ok
returns-in_ok-all-in-Fragment-clause-ok c = λ a front.
    let f = freedoms c.args.rules in
    let al = is_aligned c.args.rules in
    let w = c.args.width in
    let xs = bits_of c.in_ok-bits-in-Fragment.bits in
    let mid = c.take-in-Fragment.new.self in
    let all = c.in_ok-all-in-Fragment.all in
    let l = subst (λ l. length xs ≡ count_of l * w) (sym c.in-Fragment.is) c.in_ok-bits-in-Fragment.ensures.count in
    let piece = subst (λ l. Front f (piece_form al w (l, xs)) a mid) c.in-Fragment.is (piece_in f al w c.args.length xs a c.args.cursor.now mid front c.in_ok-bits-in-Fragment.ensures.bits l) in
    long_run f al w c.in-Fragment.multiple xs (all.0, all.1) a mid c.read_further.new.cursor piece c.in_ok-all-in-Fragment.ensures.ok
