use Rattle.std.proofs.Common.{◌≡◌, ◌⊎◌, inl, inr, ◌<◌, false, IfErr, sym, subst, arith}
use Rattle.asn1_model.specs.Per
use Rattle.per_codec_laws.specs.Takes.{Front}
use Rattle.per_codec_reading.specs.Fronts.{freedoms, is_aligned, NoneStands, Misses}
use Rattle.per_codec_reading.specs.Lengths.{number_within, aligned_within}
use Rattle.per_codec_reading.proofs.Fronts.{misses_also, ok_also, err_also}
use Rattle.per_codec_reading.proofs.NumberFronts.{few_read, few_missed, one_read, one_missed, two_read, two_missed}
use Rattle.per_codec_reading.proofs.numbers.read_constrained.Goals.{then-not-is_aligned-via-then-not-is_aligned, then-not-is_aligned-via-else-not-is_aligned+then-span-lt255}
use Rattle.per_codec_reading.proofs.numbers.read_constrained.Goals as goal

pub returns-then-not-is_aligned-clause-ok : goal.returns-then-not-is_aligned-clause-ok
returns-then-not-is_aligned-clause-ok c =
    let f = freedoms c.args.rules in
    let al = is_aligned c.args.rules in
    let a = c.args.cursor.now in
    let b = c.read_number_within.new.cursor in
    let few : (al ≡ false) ⊎ (c.args.span < 255) = elim c.then-not-is_aligned.branch [
      | then-not-is_aligned-via-then-not-is_aligned w ↦ inl (sym w.if-not-is_aligned.ensures)
      | then-not-is_aligned-via-else-not-is_aligned+then-span-lt255 w ↦ inr w.if-span-lt255.true
    ] in
    ok_also c.read_number_within.result
    (λ n x. few_read f al c.args.span n a b few (subst (λ w. Front f (number_within w c.args.span n) a b) c.bit_count.ensures.value x)) c.read_number_within.ensures.ok

pub returns-then-not-is_aligned-clause-only : goal.returns-then-not-is_aligned-clause-only
returns-then-not-is_aligned-clause-only c =
    let f = freedoms c.args.rules in
    let al = is_aligned c.args.rules in
    let a = c.args.cursor.now in
    let few : (al ≡ false) ⊎ (c.args.span < 255) = elim c.then-not-is_aligned.branch [
      | then-not-is_aligned-via-then-not-is_aligned w ↦ inl (sym w.if-not-is_aligned.ensures)
      | then-not-is_aligned-via-else-not-is_aligned+then-span-lt255 w ↦ inr w.if-span-lt255.true
    ] in
    err_also c.read_number_within.result (λ e. misses_also f (number_within c.bit_count.result c.args.span) (Per.constrained al c.args.span) a a e
    (λ n. few_missed f al c.args.span a few (subst (λ w. NoneStands f (number_within w c.args.span) a) c.bit_count.ensures.value n))) c.read_number_within.ensures.only

pub returns-then-span-lt-LONG_SPAN-clause-ok : goal.returns-then-span-lt-LONG_SPAN-clause-ok
returns-then-span-lt-LONG_SPAN-clause-ok c =
    let f = freedoms c.args.rules in
    let al = is_aligned c.args.rules in
    let s = c.args.span in
    let a = c.args.cursor.now in
    let b = c.read_aligned_within.new.cursor in
    let g = c.if-span-lt255.false in
    elim c.aligned_width.ensures [
      | inl one ↦ ok_also c.read_aligned_within.result (λ d x. one_read f al s d a b c.if-not-is_aligned.ensures one.0
          (subst (λ w. Front f (aligned_within al w s d) a b) one.1 x)) c.read_aligned_within.ensures.ok
      | inr two ↦ ok_also c.read_aligned_within.result (λ d x. let n = two.0 in two_read f al s d a b c.if-not-is_aligned.ensures (omega arith)
          c.if-span-lt-LONG_SPAN.true (subst (λ w. Front f (aligned_within al w s d) a b) two.1 x)) c.read_aligned_within.ensures.ok
    ]

pub returns-then-span-lt-LONG_SPAN-clause-only : goal.returns-then-span-lt-LONG_SPAN-clause-only
returns-then-span-lt-LONG_SPAN-clause-only c =
    let f = freedoms c.args.rules in
    let al = is_aligned c.args.rules in
    let a = c.args.cursor.now in
    let s = c.args.span in
    let g = c.if-span-lt255.false in
    let w = c.aligned_width.result in
    err_also c.read_aligned_within.result (λ e. misses_also f (aligned_within al w s) (Per.constrained al s) a a e
    (λ m. elim c.aligned_width.ensures [
      | inl one ↦ one_missed f al s a c.if-not-is_aligned.ensures one.0 (subst (λ v. NoneStands f (aligned_within al v s) a) one.1 m)
      | inr two ↦ let n = two.0 in two_missed f al s a c.if-not-is_aligned.ensures (omega arith) c.if-span-lt-LONG_SPAN.true
          (subst (λ v. NoneStands f (aligned_within al v s) a) two.1 m)
    ])) c.read_aligned_within.ensures.only

pub returns-clause-ok : goal.returns-clause-ok
returns-clause-ok c = ok_also c.read_octets_within.result (λ d x.
    subst (λ al. Front (freedoms c.args.rules) (Per.constrained al c.args.span d) c.args.cursor.now c.read_octets_within.new.cursor) c.if-not-is_aligned.ensures x) c.read_octets_within.ensures.ok

pub returns-clause-only : goal.returns-clause-only
returns-clause-only c = subst
    (λ al. IfErr c.read_octets_within.result (Misses (freedoms c.args.rules) (Per.constrained al c.args.span) c.args.cursor.now)) c.if-not-is_aligned.ensures c.read_octets_within.ensures.only
