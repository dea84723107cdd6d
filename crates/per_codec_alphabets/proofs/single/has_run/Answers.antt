use Rattle.std.proofs.Common.{◌≡◌, true, subst, arith}
use Rattle.asn1_model.specs.Strings.{is_among}
use Rattle.per_codec_alphabets.proofs.OneRun.{among_at}
use Rattle.per_codec_alphabets.proofs.single.has_run.Goals as goal

pub returns-then-run-own : goal.returns-then-run-own
returns-then-run-own g c h d p q =
    subst (λ rs. is_among rs d ≡ true) c.own_runs-own-items.ensures
    (among_at c.own_runs-own-items.result.now c.loop-own.own-index d (record { first = 0; last = 0 }) c.loop-own-test.true
    (omega (arith, p, c.if-own-run.true)) (omega (arith, q, c.if-run-own.true)))
