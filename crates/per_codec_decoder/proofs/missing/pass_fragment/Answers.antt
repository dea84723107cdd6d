use Rattle.std.proofs.Common.{◌≤◌, ◌-◌, ◌*◌, length, ap, ◌∙◌, subst}
use Rattle.asn1_values_bits.specs.BitStr.{bits_of}
use Rattle.per_codec_laws.specs.Takes.{Front}
use Rattle.per_codec_reading.specs.Fronts.{freedoms, is_aligned}
use Rattle.per_codec_reading.specs.Lengths.{length_form}
use Rattle.per_codec_reading.specs.Units.{count_of}
use Rattle.per_codec_decoder.proofs.TooShort.{counted_still_short, fragment_passed}
use Rattle.per_codec_decoder.proofs.missing.pass_fragment.Goals as goal

pub returns-in_default-clause-only : goal.returns-in_default-clause-only
returns-in_default-clause-only c = λ a f. counted_still_short (freedoms c.args.rules) (is_aligned c.args.rules) 8 c.args.determinant a
    c.args.cursor.now c.lacking-missing.result f (subst (λ n. c.lacking-missing.result ≤ n * 8 - length c.args.cursor.now.1 - 1) c.count.ensures.count c.lacking-missing.ensures)

pub returns-in_default-take-clause-only : goal.returns-in_default-take-clause-only
returns-in_default-take-clause-only c = λ a f. counted_still_short (freedoms c.args.rules) (is_aligned c.args.rules) 8 c.args.determinant a
    c.args.cursor.now c.lacking-missing.result f (subst (λ n. c.lacking-missing.result ≤ n * 8 - length c.args.cursor.now.1 - 1) c.count.ensures.count c.lacking-missing.ensures)

pub returns-clause-ok : goal.returns-clause-ok
returns-clause-ok c = λ a n f s.
    let v = c.args.rules in
    let m = c.in-Fragment.field-0 in
    let g = subst (λ l. Front (freedoms v) (length_form (is_aligned v) l) a c.args.cursor.now) c.in-Fragment.is f in
    let e = c.in-Ok.ensures.count ∙ ap (λ k. k * 8) (c.count-2.ensures.count ∙ ap count_of c.in-Fragment.is) in
    fragment_passed (freedoms v) (is_aligned v) 8 m (bits_of c.in-Ok.field-0) a c.args.cursor.now c.take.new.self n g c.in-Ok.ensures.bits e s
