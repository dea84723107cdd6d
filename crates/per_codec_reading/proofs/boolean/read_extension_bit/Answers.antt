use Rattle.std.proofs.Common.{false, sym, subst}
use Rattle.std.proofs.lemmas.Result.{err_from_is_err_and}
use Rattle.per_codec_laws.specs.Sizes.{extension_bit}
use Rattle.per_codec_laws.specs.Takes.{Front}
use Rattle.per_codec_laws.proofs.Fronts.{nothing_front}
use Rattle.per_codec_reading.specs.Fronts.{freedoms}
use Rattle.per_codec_reading.specs.Lengths.{one_bit}
use Rattle.per_codec_reading.proofs.Fronts.{misses_also}
use Rattle.per_codec_reading.proofs.boolean.read_extension_bit.Goals as goal

pub returns-then-not-is_extensible-clause-ok : goal.returns-then-not-is_extensible-clause-ok
returns-then-not-is_extensible-clause-ok c =
    let f = freedoms c.args.rules in
    let a = c.args.cursor.now in
    subst (λ e. Front f (extension_bit e false) a a) (sym c.if-not-is_extensible.true) (nothing_front f a)

pub returns-in_err-is_outside-clause-only : goal.returns-in_err-is_outside-clause-only
returns-in_err-is_outside-clause-only c =
    let p = err_from_is_err_and c.from_residual.result c.from_residual.ensures.1 in
    let f = freedoms c.args.rules in
    let a = c.args.cursor.now in
    rw (p.1, p.2) (misses_also f one_bit (extension_bit c.args.is_extensible) a a _ (λ n x b g.
    n x b (subst (λ t. Front f (extension_bit t x) a b) c.if-not-is_extensible.false g)) c.in_err-is_outside.ensures.only)
