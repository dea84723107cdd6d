use Rattle.std.specs.Prelude.{FitsSigned}
use Rattle.std.specs.Int.{w128}
use Rattle.std.proofs.Common.{rules, None, Some, IfErr, subst, to_z, of_z}
use Rattle.std.proofs.lemmas.Int.{to_z-of_z}
use Rattle.asn1_model.specs.Per
use Rattle.per_codec_reading.specs.Fronts.{freedoms, is_aligned, Misses}
use Rattle.per_codec_reading.proofs.Fronts.{misses_also, ok_also, err_also}
use Rattle.per_codec_reading_values.specs.Integers.{in_128_bits}
use Rattle.per_codec_reading_values.proofs.WholeFronts.{unbounded_read, unbounded_missed}
use Rattle.per_codec_reading_values.proofs.bounded.read_any_root.Goals as goal

pub returns-in-None-clause-ok : goal.returns-in-None-clause-ok
returns-in-None-clause-ok c =
    rw c.in-None.is (ok_also c.read_unconstrained.result (λ v. unbounded_read (freedoms c.args.rules) (is_aligned c.args.rules) v c.args.cursor.now
    c.read_unconstrained.new.cursor) c.read_unconstrained.ensures.ok)

pub returns-in-None-clause-only : goal.returns-in-None-clause-only
returns-in-None-clause-only c =
    let f = freedoms c.args.rules in
    let al = is_aligned c.args.rules in
    let a = c.args.cursor.now in
    rw c.in-None.is (err_also c.read_unconstrained.result (λ e. misses_also f (in_128_bits (Per.unconstrained al))
    (in_128_bits (Per.whole_number al None None)) a a e (unbounded_missed f al a)) c.read_unconstrained.ensures.only)

pub returns-in-Single-clause-only : goal.returns-in-Single-clause-only
returns-in-Single-clause-only c =
    let f = freedoms c.args.rules in
    let al = is_aligned c.args.rules in
    let a = c.args.cursor.now in
    let s : FitsSigned w128 c.in-Single.value = search rules in
    rw c.in-Single.is (subst (λ z. IfErr c.read_between.result (Misses f (in_128_bits (Per.whole_number al (Some z) (Some z))) a)) (to_z-of_z w128 c.in-Single.value s) c.read_between.ensures.only)

pub returns-in-Some-Some-clause-only : goal.returns-in-Some-Some-clause-only
returns-in-Some-Some-clause-only c =
    let f = freedoms c.args.rules in
    let al = is_aligned c.args.rules in
    let a = c.args.cursor.now in
    let r = c.read_between-in-Some-Some.result in
    let s : FitsSigned w128 c.in-Some-Some.low = search rules in
    let t : FitsSigned w128 c.in-Some-Some.high = search rules in
    let p = to_z-of_z w128 c.in-Some-Some.low s in
    let q = to_z-of_z w128 c.in-Some-Some.high t in
    rw (c.in-Range.is, c.in-Some-Some.is-0, c.in-Some-Some.is-1)
    (subst (λ z. IfErr r (Misses f (in_128_bits (Per.whole_number al (Some z) (Some c.in-Some-Some.high))) a)) p
    (subst (λ y. IfErr r (Misses f (in_128_bits (Per.whole_number al (Some (to_z w128 (of_z w128 c.in-Some-Some.low))) (Some y))) a)) q c.read_between-in-Some-Some.ensures.only))

pub returns-in-Some-None-clause-only : goal.returns-in-Some-None-clause-only
returns-in-Some-None-clause-only c =
    let f = freedoms c.args.rules in
    let al = is_aligned c.args.rules in
    let a = c.args.cursor.now in
    let s : FitsSigned w128 c.in-Some-None.low = search rules in
    rw (c.in-Range.is, c.in-Some-None.is-0, c.in-Some-None.is-1)
    (subst (λ z. IfErr c.read_from.result (Misses f (in_128_bits (Per.whole_number al (Some z) None)) a)) (to_z-of_z w128 c.in-Some-None.low s) c.read_from.ensures.only)

pub returns-in-None-Some-clause-only : goal.returns-in-None-Some-clause-only
returns-in-None-Some-clause-only c =
    let f = freedoms c.args.rules in
    let al = is_aligned c.args.rules in
    let a = c.args.cursor.now in
    let s : FitsSigned w128 c.in-None-Some.high = search rules in
    rw (c.in-Range.is, c.in-None-Some.is-0, c.in-None-Some.is-1)
    (subst (λ z. IfErr c.read_up_to.result (Misses f (in_128_bits (Per.whole_number al None (Some z))) a)) (to_z-of_z w128 c.in-None-Some.high s) c.read_up_to.ensures.only)

pub returns-in-None-None-clause-ok : goal.returns-in-None-None-clause-ok
returns-in-None-None-clause-ok c = rw (c.in-Range.is, c.in-None-None.is-0, c.in-None-None.is-1)
    (ok_also c.read_unconstrained-in-None-None.result (λ v. unbounded_read (freedoms c.args.rules) (is_aligned c.args.rules) v c.args.cursor.now
    c.read_unconstrained-in-None-None.new.cursor) c.read_unconstrained-in-None-None.ensures.ok)

pub returns-in-None-None-clause-only : goal.returns-in-None-None-clause-only
returns-in-None-None-clause-only c =
    let f = freedoms c.args.rules in
    let al = is_aligned c.args.rules in
    let a = c.args.cursor.now in
    rw (c.in-Range.is, c.in-None-None.is-0, c.in-None-None.is-1)
    (err_also c.read_unconstrained-in-None-None.result (λ e. misses_also f (in_128_bits (Per.unconstrained al))
    (in_128_bits (Per.whole_number al None None)) a a e (unbounded_missed f al a)) c.read_unconstrained-in-None-None.ensures.only)
