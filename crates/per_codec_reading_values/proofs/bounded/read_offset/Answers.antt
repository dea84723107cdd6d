use Rattle.std.proofs.Common.{◌≡◌, ◌⊎◌, inl, inr, ℕ, ◌<◌, Bool, true, false, sym, ◌∙◌, subst}
use Rattle.std.proofs.lemmas.Result.{err_from_is_err_and}
use Rattle.asn1_model.specs.Per
use Rattle.per_codec_laws.specs.Takes.{Front}
use Rattle.per_codec_reading.specs.Fronts.{freedoms, is_aligned, NoneStands}
use Rattle.per_codec_reading.specs.Lengths.{number_within}
use Rattle.per_codec_reading.proofs.Fronts.{misses_also}
use Rattle.per_codec_reading.proofs.NumberFronts.{few_read, few_missed}
use Rattle.per_codec_reading_values.proofs.bounded.read_offset.Goals as goal

-- the number has the bits of the span
in_bits : (r al : Bool) (s : ℕ) → r ≡ al → ((r ≡ true) × (s < 255)) ⊎ (r ≡ false) → (al ≡ false) ⊎ (s < 255)
in_bits r al s e w = elim w [ inl h ↦ inr h.1 | inr h ↦ inl (sym e ∙ h) ]

pub returns-in_err-number-2-clause-only : goal.returns-in_err-number-2-clause-only
returns-in_err-number-2-clause-only c =
    let p = err_from_is_err_and c.from_residual-in_err-number-2.result c.from_residual-in_err-number-2.ensures.1 in
    let f = freedoms c.args.rules in
    let al = is_aligned c.args.rules in
    let s = c.args.span in
    let a = c.args.cursor.now in
    let few = in_bits _ al s c.is_aligned.ensures c.if-span-ge255.either in
    let m = simp (c.from-2.ensures, c.from-3.ensures) at c.in_err-number-2.ensures.only in
    rw (p.1, p.2) (misses_also f (number_within c.args.bits s) (Per.constrained al s) a a _
    (λ n. few_missed f al s a few (subst (λ w. NoneStands f (number_within w s) a) c.requires n)) m)

pub returns-clause-ok : goal.returns-clause-ok
returns-clause-ok c =
    let f = freedoms c.args.rules in
    let al = is_aligned c.args.rules in
    let s = c.args.span in
    let n = c.in_ok-number-2.number in
    let a = c.args.cursor.now in
    let b = c.read_number_within.new.cursor in
    let few = in_bits _ al s c.is_aligned.ensures c.if-span-ge255.either in
    let x = simp (c.from-2.ensures, c.from-3.ensures) at c.in_ok-number-2.ensures.ok in
    few_read f al s n a b few (subst (λ w. Front f (number_within w s n) a b) c.requires x)
