use Rattle.std.proofs.Common.{◌≡◌, true, false, sym, subst}
use Rattle.std.specs.Int.{w128}
use Rattle.std.proofs.lemmas.Int.{to_z-of_z}
use Rattle.asn1_model.specs.Numbers.{is_within}
use Rattle.std.proofs.lemmas.Result.{err_from_is_err_and}
use Rattle.asn1_model.specs.Per
use Rattle.asn1_schema_constraints.specs.Bounds.{lower, range_of, upper}
use Rattle.per_codec_laws.specs.Takes.{Front}
use Rattle.per_codec_reading.specs.Fronts.{freedoms, is_aligned}
use Rattle.per_codec_reading.specs.Lengths.{one_bit}
use Rattle.per_codec_reading.specs.Headings.{may_be_outside}
use Rattle.per_codec_reading.proofs.Fronts.{misses_also, ok_also, err_also}
use Rattle.per_codec_reading_values.specs.Integers.{in_128_bits, under_constraint, behind_extension_bit}
use Rattle.per_codec_reading_values.proofs.WholeFronts.{wide_in_front, inextensible_read, inextensible_missed, extensible_read, extensible_missed, extensible_refused, extension_bit_missed}
use Rattle.per_codec_reading_values.proofs.bounded.read_bounded.Goals as goal

pub returns-then-is_none-clause-ok : goal.returns-then-is_none-clause-ok
returns-then-is_none-clause-ok c = ok_also c.read_root.result
    (λ v. inextensible_read (freedoms c.args.rules) (is_aligned c.args.rules) c.args.constraint v c.args.cursor.now c.read_root.new.cursor c.if-is_none.ensures) c.read_root.ensures.ok

pub returns-then-is_none-clause-only : goal.returns-then-is_none-clause-only
returns-then-is_none-clause-only c =
    let f = freedoms c.args.rules in
    let al = is_aligned c.args.rules in
    let a = c.args.cursor.now in
    let k = c.args.constraint in
    err_also c.read_root.result (λ e. misses_also f (in_128_bits (Per.whole_number al (lower k.constraint.value) (upper k.constraint.value)))
    (in_128_bits (under_constraint al k)) a a e (inextensible_missed f al k a c.if-is_none.ensures)) c.read_root.ensures.only
