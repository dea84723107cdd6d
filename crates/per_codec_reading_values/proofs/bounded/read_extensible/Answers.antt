use Rattle.std.proofs.Common.{◌≡◌, true, false, sym, subst}
use Rattle.std.specs.Int.{w128}
use Rattle.std.proofs.lemmas.Int.{to_z-of_z}
use Rattle.asn1_model.specs.Numbers.{is_within}
use Rattle.std.proofs.lemmas.Result.{err_from_is_err_and}
use Rattle.asn1_model.specs.Per
use Rattle.asn1_schema_constraints.specs.Bounds.{lower, range_of, upper}
use Rattle.per_codec_laws.specs.Takes.{Front}
use Rattle.per_codec_reading.specs.Fronts.{freedoms, is_aligned}
use Rattle.per_codec_reading.specs.Lengths.{one_bit}
use Rattle.per_codec_reading.specs.Headings.{may_be_outside}
use Rattle.per_codec_reading.proofs.Fronts.{misses_also, ok_also, err_also}
use Rattle.per_codec_reading_values.specs.Integers.{in_128_bits, under_constraint, behind_extension_bit}
use Rattle.per_codec_reading_values.proofs.WholeFronts.{wide_in_front, inextensible_read, inextensible_missed, extensible_read, extensible_missed, extensible_refused, extension_bit_missed}
use Rattle.per_codec_reading_values.proofs.bounded.read_extensible.Goals as goal

pub returns-in_err-is_outside-clause-only : goal.returns-in_err-is_outside-clause-only
returns-in_err-is_outside-clause-only c =
    let p = err_from_is_err_and c.from_residual.result c.from_residual.ensures.1 in
    let f = freedoms c.args.rules in
    let al = is_aligned c.args.rules in
    let a = c.args.cursor.now in
    let k = c.args.constraint in
    rw (p.1, p.2) (misses_also f one_bit (in_128_bits (under_constraint al k)) a a _ (extension_bit_missed f al k a c.requires) c.in_err-is_outside.ensures.only)

pub returns-in_err-number-clause-only : goal.returns-in_err-number-clause-only
returns-in_err-number-clause-only c =
    let p = err_from_is_err_and c.from_residual-in_err-number.result c.from_residual-in_err-number.ensures.1 in
    let f = freedoms c.args.rules in
    let al = is_aligned c.args.rules in
    let a = c.args.cursor.now in
    let m = c.read_bit.new.cursor in
    let k = c.args.constraint in
    rw (p.1, p.2) (misses_also f (in_128_bits (behind_extension_bit al c.in_ok-is_outside.is_outside k.constraint.value))
    (in_128_bits (under_constraint al k)) m a _ (extensible_missed f al k c.in_ok-is_outside.is_outside a m c.requires c.in_ok-is_outside.ensures.ok) c.in_err-number.ensures.only)

pub returns-then-not-is_accepted_outside-clause-only : goal.returns-then-not-is_accepted_outside-clause-only
returns-then-not-is_accepted_outside-clause-only c =
    let k = c.args.constraint in
    let f = freedoms c.args.rules in
    let o = c.in_ok-is_outside.is_outside in
    let q = to_z-of_z w128 c.in_ok-number.number (wide_in_front f (behind_extension_bit (is_aligned c.args.rules) o k.constraint.value)
    c.in_ok-number.number c.read_bit.new.cursor c.read_behind_extension_bit.new.cursor c.in_ok-number.ensures.ok) in
    let t = subst (λ z. may_be_outside (f Per.root_told_outside) o (is_within (range_of k.constraint.value) z) ≡ false) q (sym c.if-not-is_accepted_outside.ensures) in
    extensible_refused f (is_aligned c.args.rules) k c.in_ok-is_outside.is_outside c.in_ok-number.number c.args.cursor.now c.read_bit.new.cursor
    c.read_behind_extension_bit.new.cursor t c.requires c.in_ok-is_outside.ensures.ok c.in_ok-number.ensures.ok

pub returns-clause-ok : goal.returns-clause-ok
returns-clause-ok c =
    let k = c.args.constraint in
    let f = freedoms c.args.rules in
    let o = c.in_ok-is_outside.is_outside in
    let q = to_z-of_z w128 c.in_ok-number.number (wide_in_front f (behind_extension_bit (is_aligned c.args.rules) o k.constraint.value)
    c.in_ok-number.number c.read_bit.new.cursor c.read_behind_extension_bit.new.cursor c.in_ok-number.ensures.ok) in
    let t = subst (λ z. may_be_outside (f Per.root_told_outside) o (is_within (range_of k.constraint.value) z) ≡ true) q (sym c.if-not-is_accepted_outside.ensures) in
    subst (λ z. Front f (in_128_bits (under_constraint (is_aligned c.args.rules) k) z) c.args.cursor.now c.read_behind_extension_bit.new.cursor)
    (sym q) (extensible_read f (is_aligned c.args.rules) k c.in_ok-is_outside.is_outside c.in_ok-number.number c.args.cursor.now
    c.read_bit.new.cursor c.read_behind_extension_bit.new.cursor c.requires t c.in_ok-is_outside.ensures.ok c.in_ok-number.ensures.ok)
