use Rattle.std.proofs.Common.{◌&&◌, sym, subst, []}
use Rattle.std.proofs.lemmas.Result.{err_from_is_err_and}
use Rattle.asn1_model.specs.Per
use Rattle.per_codec_laws.specs.Takes.{Front}
use Rattle.per_codec_reading.specs.Fronts.{freedoms, is_aligned}
use Rattle.per_codec_reading.proofs.Fronts.{misses_also, unaligned_padding}
use Rattle.per_codec_reading.proofs.ToldFronts.{padded_true, padded_false}
use Rattle.per_codec_reading.proofs.sized.read_padding_if.Goals as goal
use Rattle.asn1_model.specs.Form.{exactly}

pub returns-in_err-read_padding-clause-only : goal.returns-in_err-read_padding-clause-only
returns-in_err-read_padding-clause-only c =
    let p = err_from_is_err_and c.from_residual.result c.from_residual.ensures.1 in
    let f = freedoms c.args.rules in
    let al = is_aligned c.args.rules in
    let a = c.args.cursor.now in
    let e = padded_true al c.args.has_padding c.if-has_padding.true in
    rw (p.1, p.2) (misses_also f (Per.at_octet al) (Per.at_octet (al && c.args.has_padding)) a a _
    (λ n x b g. n x b (subst (λ t. Front f (Per.at_octet t x) a b) e g)) c.in_err-read_padding.ensures.only)

pub returns-else-has_padding-clause-ok : goal.returns-else-has_padding-clause-ok
returns-else-has_padding-clause-ok c =
    let f = freedoms c.args.rules in
    let a = c.args.cursor.now in
    subst (λ t. Front f (Per.at_octet t (exactly [])) a a) (sym (padded_false (is_aligned c.args.rules) c.args.has_padding c.if-has_padding.false)) (unaligned_padding f a)
