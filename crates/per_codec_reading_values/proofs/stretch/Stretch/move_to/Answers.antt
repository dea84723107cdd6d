use Rattle.std.proofs.Common.{ap, sym, subst, refl, arith}
use Rattle.per_codec_laws.specs.Takes.{Position}
use Rattle.per_codec_reading.specs.Fronts.{Leads}
use Rattle.per_codec_reading.specs.Runs.{bits_in}
use Rattle.per_codec_reading_values.specs.Stretches.{Stretched}
use Rattle.per_codec_reading_values.proofs.Moving.{moved, within, within_count}
use Rattle.per_codec_reading_values.proofs.stretch.Stretch.move_to.Goals as goal

pub returns-then-position-reached-clause-place : goal.returns-then-position-reached-clause-place
returns-then-position-reached-clause-place c = λ w b e h.
    let here = subst (λ (p : Position). Leads w p b) (ap (λ (s : Stretched). s.place) (sym c.self.view_is)) h in
    let k = here.1 in
    let l = c.if-position-reached.true in
    absurd (omega (arith, e, k, l))

pub returns-then-position-count-clause-place : goal.returns-then-position-count-clause-place
returns-then-position-count-clause-place c = λ w b e h.
    let bits = bits_in c.self.inside.bits in
    let here = subst (λ (p : Position). Leads w p b) (ap (λ (s : Stretched). s.place) (sym c.self.view_is)) h in
    let i = within w bits c.self.inside.position b (within_count bits c.self.inside.position c.self.inside.count c.self.invariant) here in
    let n = c.self.invariant.1 in
    let l = c.if-position-count.true in
    absurd (omega (arith, e, i, n, l))

pub returns-clause-place : goal.returns-clause-place
returns-clause-place c = λ w b e h.
    let bits = bits_in c.self.inside.bits in
    moved w bits c.self.inside.position c.args.position c.args.position b
    (within_count bits c.self.inside.position c.self.inside.count c.self.invariant) e (λ l. refl) (subst (λ (p : Position). Leads w p b) (ap (λ (s : Stretched). s.place) (sym c.self.view_is)) h)
