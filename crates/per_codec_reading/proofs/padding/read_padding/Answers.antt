use Rattle.std.proofs.Common.{subst, []}
use Rattle.std.proofs.lemmas.Result.{err_from_is_err_and}
use Rattle.asn1_model.specs.Per
use Rattle.per_codec_laws.specs.Takes.{Front}
use Rattle.per_codec_reading.specs.Fronts.{freedoms, NoneStands, is_aligned, to_octet}
use Rattle.per_codec_reading.proofs.Fronts.{misses_also, none_behind, aligned_padding, unaligned_padding}
use Rattle.per_codec_reading.proofs.padding.read_padding.Goals as goal
use Rattle.asn1_model.specs.Form.{exactly}

pub returns-in_err-skip_padding-clause-only : goal.returns-in_err-skip_padding-clause-only
returns-in_err-skip_padding-clause-only c =
    let p = err_from_is_err_and c.from_residual.result c.from_residual.ensures.1 in
    let f = freedoms c.args.rules in
    let a = c.args.cursor.now in
    rw (p.1, p.2) (misses_also f (λ (u : Unit {0}). to_octet) (Per.at_octet (is_aligned c.args.rules)) a a _
    (λ n. subst (λ al. NoneStands f (Per.at_octet al) a) c.if-is_aligned.ensures (none_behind f a (λ b g. n tt b g))) c.in_err-skip_padding.ensures.only)

pub returns-in_ok-skip_padding-clause-ok : goal.returns-in_ok-skip_padding-clause-ok
returns-in_ok-skip_padding-clause-ok c =
    let f = freedoms c.args.rules in
    subst (λ al. Front f (Per.at_octet al (exactly [])) c.args.cursor.now c.skip_padding.new.cursor) c.if-is_aligned.ensures
    (aligned_padding f c.args.cursor.now c.skip_padding.new.cursor c.in_ok-skip_padding.ensures.ok)

pub returns-else-is_aligned-clause-ok : goal.returns-else-is_aligned-clause-ok
returns-else-is_aligned-clause-ok c =
    let f = freedoms c.args.rules in
    subst (λ al. Front f (Per.at_octet al (exactly [])) c.args.cursor.now c.args.cursor.now) c.if-is_aligned.ensures (unaligned_padding f c.args.cursor.now)
