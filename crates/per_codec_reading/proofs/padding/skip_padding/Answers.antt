use Rattle.std.proofs.Common.{◌≡◌, refl, sym, ◌∙◌, [], inl, arith}
use Rattle.std.proofs.lemmas.Bool.{false≢true}
use Rattle.std.proofs.lemmas.Result.{err_from_is_err_and}
use Rattle.asn1_model.specs.Per
use Rattle.asn1_values_bits.specs.BitStr.{bits_of}
use Rattle.per_codec_reading.specs.Fronts.{freedoms}
use Rattle.per_codec_reading.proofs.Fronts.{padding_in, not_padding, short_padding}
use Rattle.per_codec_reading.proofs.padding.skip_padding.Goals as goal

pub returns-in_err-bits-clause-only : goal.returns-in_err-bits-clause-only
returns-in_err-bits-clause-only c =
    let p = err_from_is_err_and c.from_residual.result c.from_residual.ensures.1 in
    let q = c.in_err-bits.ensures.short in
    let m = c.free_bits-count.ensures in
    let n = c.position.ensures in
    rw (p.1, p.2, q.0) (λ u b f. short_padding (freedoms c.args.rules) c.args.cursor.now (rw (sym n, sym m) q.1) b f)

pub returns-then-not-are_accepted-clause-only : goal.returns-then-not-are_accepted-clause-only
returns-then-not-are_accepted-clause-only c =
    let m = c.free_bits-count.ensures in
    let n = c.position.ensures in
    λ u b f. not_padding (freedoms c.args.rules) (bits_of c.in_ok-bits.bits) c.args.cursor.now c.take.new.self
    (rw (sym n) (c.in_ok-bits.ensures.count ∙ m)) c.in_ok-bits.ensures.bits (λ z. false≢true (c.if-not-are_accepted.ensures.1 z)) b f

pub returns-clause-ok : goal.returns-clause-ok
returns-clause-ok c =
    let m = c.free_bits-count.ensures in
    let n = c.position.ensures in
    padding_in (freedoms c.args.rules) (bits_of c.in_ok-bits.bits) c.args.cursor.now c.take.new.self (c.if-not-are_accepted.ensures.0 refl)
    (rw (sym n) (c.in_ok-bits.ensures.count ∙ m)) c.in_ok-bits.ensures.bits

pub returns-then-count-eq0-clause-ok : goal.returns-then-count-eq0-clause-ok
returns-then-count-eq0-clause-ok c =
    let m = c.free_bits-count.ensures in
    let n = c.position.ensures in
    let e : 0 ≡ Per.missing (c.args.cursor.now).0 = rw (sym n, sym m) (sym c.if-count-eq0.true) in
    padding_in (freedoms c.args.rules) [] c.args.cursor.now c.args.cursor.now (inl refl) e (refl, omega (arith))
