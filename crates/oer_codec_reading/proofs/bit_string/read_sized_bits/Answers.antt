use Rattle.std.proofs.Common.{false}
use Rattle.std.proofs.lemmas.Result.{err_from_is_err_and}
use Rattle.asn1_model.specs.Oer.{bit_string_form}
use Rattle.asn1_values_bits.specs.BitStr.{bits_of}
use Rattle.oer_codec_reading.specs.Bits.{bits_in, sized_bits}
use Rattle.oer_codec_reading.specs.Fronts.{freedoms}
use Rattle.oer_codec_reading.proofs.Fronts.{misses_also}
use Rattle.oer_codec_reading.proofs.BitStringFronts.{of_size, none_of_size, of_any_size, none_of_any_size}
use Rattle.oer_codec_reading.proofs.bit_string.read_sized_bits.Goals as goal

pub returns-in_err-bits-in-Some-clause-only : goal.returns-in_err-bits-in-Some-clause-only
returns-in_err-bits-in-Some-clause-only c =
    let p = err_from_is_err_and c.from_residual.result c.from_residual.ensures.1 in
    rw (p.1, p.2) (misses_also (freedoms c.args.rules) (bits_in c.in-Some.count) (sized_bits c.args.size) c.args.cursor.now c.args.cursor.now _
    (none_of_size c.args.rules c.args.size c.in-Some.count c.args.cursor.now c.in-Some.is) c.in_err-bits-in-Some.ensures.only)

pub returns-in_err-bits-in-None-clause-only : goal.returns-in_err-bits-in-None-clause-only
returns-in_err-bits-in-None-clause-only c =
    let p = err_from_is_err_and c.from_residual-in_err-bits-in-None.result c.from_residual-in_err-bits-in-None.ensures.1 in
    rw (p.1, p.2) (misses_also (freedoms c.args.rules) (bit_string_form false) (sized_bits c.args.size) c.args.cursor.now c.args.cursor.now _
    (none_of_any_size c.args.rules c.args.size c.args.cursor.now c.in-None.is) c.in_err-bits-in-None.ensures.only)

pub returns-in_ok-bits-in-Some-clause-ok : goal.returns-in_ok-bits-in-Some-clause-ok
returns-in_ok-bits-in-Some-clause-ok c = of_size c.args.rules c.args.size c.in-Some.count (bits_of c.in_ok-bits-in-Some.bits) c.args.cursor.now
    c.read_bits_of_octets.new.cursor c.in-Some.is c.in_ok-bits-in-Some.ensures.ok

pub returns-in_ok-bits-in-None-clause-ok : goal.returns-in_ok-bits-in-None-clause-ok
returns-in_ok-bits-in-None-clause-ok c = of_any_size c.args.rules c.args.size (bits_of c.in_ok-bits-in-None.bits) c.args.cursor.now
    c.read_varying.new.cursor c.in-None.is c.in_ok-bits-in-None.ensures.ok
