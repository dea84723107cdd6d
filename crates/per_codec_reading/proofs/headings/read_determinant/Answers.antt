use Rattle.std.proofs.Common.{sym, ◌∙◌, subst}
use Rattle.std.proofs.lemmas.Result.{err_from_is_err_and}
use Rattle.asn1_schema_constraints.specs.Bounds.{counts_of}
use Rattle.per_codec_laws.specs.Sizes.{told_highest}
use Rattle.per_codec_laws.specs.Takes.{Front}
use Rattle.per_codec_reading.specs.Fronts.{freedoms, is_aligned, NoneStands}
use Rattle.per_codec_reading.specs.Lengths.{length_form}
use Rattle.per_codec_reading.specs.Headings.{determinant_form, told_count}
use Rattle.per_codec_reading.specs.declared.headings.LengthDeterminant.TheVariants.{Constrained, General}
use Rattle.per_codec_reading.proofs.Fronts.{misses_also}
use Rattle.per_codec_reading.proofs.HeadingFronts.{no_told, no_general}
use Rattle.per_codec_reading.proofs.headings.read_determinant.Goals as goal

pub returns-in_err-count-in-Some-clause-only : goal.returns-in_err-count-in-Some-clause-only
returns-in_err-count-in-Some-clause-only c =
    let p = err_from_is_err_and c.from_residual.result c.from_residual.ensures.1 in
    let f = freedoms c.args.rules in
    let al = is_aligned c.args.rules in
    let root = counts_of c.args.root in
    let a = c.args.cursor.now in
    let e = sym c.in-Some.is ∙ c.highest_inside.ensures.highest in
    let low = c.minimum.result in
    let high = c.in-Some.highest in
    rw (p.1, p.2) (misses_also f (told_count al low high) (determinant_form al root (told_highest c.args.is_outside root.high)) a a _
    (λ n. subst (λ t. NoneStands f (determinant_form al root t) a) e
    (no_told f al root high a (subst (λ l. NoneStands f (told_count al l high) a) c.minimum.ensures n))) c.in_err-count-in-Some.ensures.only)

pub returns-in_err-length-in-None-clause-only : goal.returns-in_err-length-in-None-clause-only
returns-in_err-length-in-None-clause-only c =
    let p = err_from_is_err_and c.from_residual-in_err-length-in-None.result c.from_residual-in_err-length-in-None.ensures.1 in
    let f = freedoms c.args.rules in
    let al = is_aligned c.args.rules in
    let root = counts_of c.args.root in
    let a = c.args.cursor.now in
    let e = sym c.in-None.is ∙ c.highest_inside.ensures.highest in
    rw (p.1, p.2) (misses_also f (length_form al) (determinant_form al root (told_highest c.args.is_outside root.high)) a a _
    (λ n. subst (λ t. NoneStands f (determinant_form al root t) a) e (no_general f al root a n)) c.in_err-length-in-None.ensures.only)

pub returns-in_ok-count-in-Some-clause-ok : goal.returns-in_ok-count-in-Some-clause-ok
returns-in_ok-count-in-Some-clause-ok c =
    let f = freedoms c.args.rules in
    let al = is_aligned c.args.rules in
    let root = counts_of c.args.root in
    let a = c.args.cursor.now in
    let b = c.read_told_count.new.cursor in
    let n = c.in_ok-count-in-Some.count in
    let high = c.in-Some.highest in
    let e = sym c.in-Some.is ∙ c.highest_inside.ensures.highest in
    subst (λ t. Front f (determinant_form al root t (Constrained n)) a b) e (subst (λ l. Front f (told_count al l high n) a b) c.minimum.ensures c.in_ok-count-in-Some.ensures.ok)

pub returns-in_ok-length-in-None-clause-ok : goal.returns-in_ok-length-in-None-clause-ok
returns-in_ok-length-in-None-clause-ok c =
    let f = freedoms c.args.rules in
    let al = is_aligned c.args.rules in
    let root = counts_of c.args.root in
    let e = sym c.in-None.is ∙ c.highest_inside.ensures.highest in
    subst (λ t. Front f (determinant_form al root t (General c.in_ok-length-in-None.length)) c.args.cursor.now c.read_length.new.cursor) e c.in_ok-length-in-None.ensures.ok
