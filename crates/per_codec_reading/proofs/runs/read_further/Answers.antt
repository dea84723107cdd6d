use Rattle.std.proofs.Common.{◌≡◌, ◌+◌, ◌*◌, true, ap, sym, ◌∙◌, subst, arith}
use Rattle.std.proofs.lemmas.Result.{err_from_is_err_and}
use Rattle.asn1_model.specs.Per
use Rattle.asn1_values_bits.specs.BitStr.{bits_of}
use Rattle.per_codec_laws.specs.Takes.{Front}
use Rattle.per_codec_reading.specs.Fronts.{freedoms, is_aligned}
use Rattle.per_codec_reading.proofs.Fronts.{misses_also}
use Rattle.per_codec_reading.specs.Units.{Units, count_of, piece_form, units_after, length_may_follow}
use Rattle.per_codec_reading.proofs.Loops.{Joins, joins_more, joins_last, joins_stop, joins_refused, fragment_shortens}
use Rattle.per_codec_reading.proofs.runs.read_further.Goals as goal

pub returns-in_err-piece-clause-only : goal.returns-in_err-piece-clause-only
returns-in_err-piece-clause-only c =
    let p = err_from_is_err_and c.from_residual-in_err-piece.result c.from_residual-in_err-piece.ensures.1 in
    let f = freedoms c.args.rules in
    let al = is_aligned c.args.rules in
    let w = c.args.width in
    let m = c.args.multiple in
    let s = c.fragments in
    rw (p.1, p.2) (misses_also f (piece_form al w) (units_after (f Per.other_fragments) m al w) s.cursor c.args.cursor.now _
    (joins_stop f al w m s.last (m * 16384, bits_of c.args.bits) (s.total, s.joined) c.args.cursor.now s.cursor s.invariant) c.in_err-piece.ensures.only)

pub returns-then-not-may_follow-clause-only : goal.returns-then-not-may_follow-clause-only
returns-then-not-may_follow-clause-only c =
    let m = c.args.multiple in
    let s = c.fragments in
    let piece = c.in_ok-piece.piece in
    joins_refused (freedoms c.args.rules) (is_aligned c.args.rules) c.args.width m s.last piece.length (bits_of piece.bits)
    (m * 16384, bits_of c.args.bits) (s.total, s.joined) c.args.cursor.now s.cursor c.read_piece.new.cursor (sym c.if-not-may_follow.ensures) s.invariant c.in_ok-piece.ensures.ok

pub returns-in-Short-clause-ok : goal.returns-in-Short-clause-ok
returns-in-Short-clause-ok c =
    let f = freedoms c.args.rules in
    let al = is_aligned c.args.rules in
    let w = c.args.width in
    let m = c.args.multiple in
    let s = c.fragments in
    let n = c.in-Short.field-0 in
    let xs = bits_of c.in_ok-piece.piece.bits in
    let next = c.read_piece.new.cursor in
    let front = subst (λ l. Front f (piece_form al w (l, xs)) s.cursor next) c.in-Short.is c.in_ok-piece.ensures.ok in
    let all = joins_last f al w m s.last n xs (m * 16384, bits_of c.args.bits) (s.total, s.joined) c.args.cursor.now s.cursor next s.invariant front in
    let k : c.count.result ≡ n = c.count.ensures.count ∙ ap count_of c.in-Short.is in
    let e : s.total + n ≡ c.in-Some.sum = omega (arith, c.in-Some.ensures) in
    (all.0, all.1 ∙ e, all.2 ∙ sym c.in_ok-extend_from_bitslice-2.ensures.ok, all.3)

pub fragments-smaller : goal.fragments-smaller
fragments-smaller c =
    let f = freedoms c.args.rules in
    let al = is_aligned c.args.rules in
    let w = c.args.width in
    let xs = bits_of c.in_ok-piece.piece.bits in
    let here = c.fragments.cursor in
    let next = c.read_piece.new.cursor in
    fragment_shortens f al w c.in-Fragment.further xs here next (subst (λ l. Front f (piece_form al w (l, xs)) here next) c.in-Fragment.is c.in_ok-piece.ensures.ok)

pub fragments-preserved : goal.fragments-preserved
fragments-preserved c =
    let f = freedoms c.args.rules in
    let al = is_aligned c.args.rules in
    let w = c.args.width in
    let m = c.args.multiple in
    let s = c.fragments in
    let k = c.in-Fragment.further in
    let xs = bits_of c.in_ok-piece.piece.bits in
    let start = c.args.cursor.now in
    let next = c.read_piece.new.cursor in
    let first : Units = (m * 16384, bits_of c.args.bits) in
    let front = subst (λ l. Front f (piece_form al w (l, xs)) s.cursor next) c.in-Fragment.is c.in_ok-piece.ensures.ok in
    let may = subst (λ l. length_may_follow (f Per.other_fragments) s.last l ≡ true) c.in-Fragment.is (sym c.if-not-may_follow.ensures) in
    let more = joins_more f al w m s.last k xs first (s.total, s.joined) start s.cursor next may s.invariant front in
    let n : c.count.result ≡ k * 16384 = c.count.ensures.count ∙ ap count_of c.in-Fragment.is in
    let e : s.total + k * 16384 ≡ c.in-Some.sum = omega (arith, c.in-Some.ensures) in
    let l = sym c.in_ok-extend_from_bitslice-2.ensures.ok in
    subst (λ t. Joins f al w m first start k (t, c.extend_from_bitslice-in-fragments.new.self) next) e (subst (λ b. Joins f al w m first start k (s.total + k * 16384, b) next) l more)
