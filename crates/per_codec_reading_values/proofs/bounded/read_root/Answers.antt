use Rattle.std.specs.Prelude.{FitsSigned}
use Rattle.std.specs.Int.{w128}
use Rattle.std.proofs.Common.{rules, Some, IfErr, subst, to_z, of_z}
use Rattle.std.proofs.lemmas.Int.{to_z-of_z}
use Rattle.asn1_model.specs.Per
use Rattle.per_codec_reading.specs.Fronts.{freedoms, is_aligned, Misses}
use Rattle.per_codec_reading_values.specs.Integers.{in_128_bits}
use Rattle.per_codec_reading_values.proofs.bounded.read_root.Goals as goal

pub returns-in-Some-Some-clause-only : goal.returns-in-Some-Some-clause-only
returns-in-Some-Some-clause-only c =
    let f = freedoms c.args.rules in
    let al = is_aligned c.args.rules in
    let a = c.args.cursor.now in
    let r = c.read_between.result in
    let s : FitsSigned w128 c.in-Some-Some.low = search rules in
    let t : FitsSigned w128 c.in-Some-Some.high = search rules in
    let p = to_z-of_z w128 c.in-Some-Some.low s in
    let q = to_z-of_z w128 c.in-Some-Some.high t in
    rw (c.in-Range.is, c.in-Some-Some.is-0, c.in-Some-Some.is-1)
    (subst (λ z. IfErr r (Misses f (in_128_bits (Per.whole_number al (Some z) (Some c.in-Some-Some.high))) a)) p
    (subst (λ y. IfErr r (Misses f (in_128_bits (Per.whole_number al (Some (to_z w128 (of_z w128 c.in-Some-Some.low))) (Some y))) a)) q c.read_between.ensures.only))

pub returns-in_default-2-clause-only : goal.returns-in_default-2-clause-only
returns-in_default-2-clause-only c = rw c.in-Range.is c.read_any_root.ensures.only
