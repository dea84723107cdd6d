use Rattle.std.proofs.Common.{subst}
use Rattle.std.proofs.lemmas.Result.{err_from_is_err_and}
use Rattle.per_codec_laws.specs.Takes.{Front}
use Rattle.per_codec_reading.specs.Fronts.{freedoms, to_octet, NoneStands}
use Rattle.per_codec_reading.specs.Lengths.{number_within, padded_within}
use Rattle.per_codec_reading.proofs.Fronts.{misses_also}
use Rattle.per_codec_reading.proofs.NumberFronts.{padded_read, none_numbered, none_ended}
use Rattle.per_codec_reading.proofs.numbers.read_padded_within.Goals as goal

pub returns-in_err-number-clause-only : goal.returns-in_err-number-clause-only
returns-in_err-number-clause-only c =
    let p = err_from_is_err_and c.from_residual.result c.from_residual.ensures.1 in
    let f = freedoms c.args.rules in
    let w = c.args.bits in
    let most = c.args.most in
    let a = c.args.cursor.now in
    rw (p.1, p.2) (misses_also f (number_within w most) (padded_within w most) c.take_plain.new.cursor a _
    (λ n. none_numbered f w most a (subst (NoneStands f (number_within w most)) c.in_default.ensures.stays n)) c.in_err-number.ensures.only)

pub returns-in_err-skip_padding-clause-only : goal.returns-in_err-skip_padding-clause-only
returns-in_err-skip_padding-clause-only c =
    let p = err_from_is_err_and c.from_residual-in_err-skip_padding.result c.from_residual-in_err-skip_padding.ensures.1 in
    let f = freedoms c.args.rules in
    let w = c.args.bits in
    let most = c.args.most in
    let a = c.args.cursor.now in
    let n = c.in_ok-number.number in
    let mid = c.read_number_within.new.cursor in
    rw (p.1, p.2) (misses_also f (λ (_ : Unit {0}). to_octet) (padded_within w most) mid a _
    (none_ended f w most n a mid (subst (λ m. Front f (number_within w most n) m mid) c.in_default.ensures.stays c.in_ok-number.ensures.ok)) c.in_err-skip_padding.ensures.only)

pub returns-clause-ok : goal.returns-clause-ok
returns-clause-ok c =
    let f = freedoms c.args.rules in
    let w = c.args.bits in
    let most = c.args.most in
    let n = c.in_ok-number.number in
    let mid = c.read_number_within.new.cursor in
    padded_read f w most n c.args.cursor.now mid c.skip_padding.new.cursor
    (subst (λ m. Front f (number_within w most n) m mid) c.in_default.ensures.stays c.in_ok-number.ensures.ok) c.in_ok-skip_padding.ensures.ok
