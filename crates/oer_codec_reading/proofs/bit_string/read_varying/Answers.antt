use Rattle.std.proofs.Common.{false, arith}
use Rattle.std.proofs.lemmas.Result.{err_from_is_err_and}
use Rattle.asn1_model.specs.Oer.{bit_string_form, length_form}
use Rattle.asn1_values_bits.specs.BitStr.{bits_of}
use Rattle.oer_codec_reading.specs.Fronts.{freedoms}
use Rattle.oer_codec_reading.proofs.Freedoms.{is_not, not_is}
use Rattle.oer_codec_reading.proofs.Fronts.{misses_also}
use Rattle.oer_codec_reading.proofs.BitStringFronts.{no_count, empty_count, no_bits, few_octets, wrong_unused, varying_read, varying_refused}
use Rattle.oer_codec_reading.proofs.bit_string.read_varying.Goals as goal

pub returns-in_err-length-clause-only : goal.returns-in_err-length-clause-only
returns-in_err-length-clause-only c =
    let p = err_from_is_err_and c.from_residual.result c.from_residual.ensures.1 in
    rw (p.1, p.2) (misses_also (freedoms c.args.rules) length_form (bit_string_form false) c.args.cursor.now c.args.cursor.now _ (no_count c.args.rules c.args.cursor.now) c.in_err-length.ensures.only)

pub returns-then-is_coer-clause-only : goal.returns-then-is_coer-clause-only
returns-then-is_coer-clause-only c = empty_count c.args.rules c.args.cursor.now c.read_length.new.cursor c.in_ok-length.length c.if-length-eq0.true
    (not_is c.if-is_coer.ensures) c.in_ok-length.ensures.ok

pub returns-then-length-eq0-clause-ok : goal.returns-then-length-eq0-clause-ok
returns-then-length-eq0-clause-ok c = no_bits c.args.rules c.args.cursor.now c.read_length.new.cursor c.in_ok-length.length (bits_of c.new.result)
    c.new.ensures.bits (is_not c.if-is_coer.ensures) c.if-length-eq0.true c.in_ok-length.ensures.ok

pub returns-then-length-len-clause-only : goal.returns-then-length-len-clause-only
returns-then-length-len-clause-only c = few_octets c.args.rules c.args.cursor.now c.read_length.new.cursor c.in_ok-length.length c.if-length-eq0.false (omega arith) c.in_ok-length.ensures.ok

pub returns-in_default-clause-only : goal.returns-in_default-clause-only
returns-in_default-clause-only c = wrong_unused c.args.rules c.args.cursor.now c.read_length.new.cursor c.take_octet.new.self c.in_ok-length.length
    c.in_ok-unused.unused c.if-length-eq0.false c.in_ok-unused.ensures.octet.0 c.in_default.ensures.none c.in_ok-length.ensures.ok

pub returns-clause-ok : goal.returns-clause-ok
returns-clause-ok c = varying_read c.args.rules c.read_bits_of_octets.result bits_of c.args.cursor.now c.read_length.new.cursor c.take_octet.new.self
    c.read_bits_of_octets.new.cursor c.in_ok-length.length c.in_ok-unused.unused c.in-Some.count c.in_ok-unused.ensures.octet.0
    c.in-Some.ensures.some.0 c.in-Some.ensures.some.1 c.in_ok-length.ensures.ok c.read_bits_of_octets.ensures.ok

pub returns-clause-only : goal.returns-clause-only
returns-clause-only c = varying_refused c.args.rules c.read_bits_of_octets.result c.args.cursor.now c.read_length.new.cursor c.take_octet.new.self
    c.in_ok-length.length c.in_ok-unused.unused c.in-Some.count c.if-length-eq0.false c.in_ok-unused.ensures.octet.0 c.in-Some.ensures.some.0
    c.in-Some.ensures.some.1 c.in_ok-length.ensures.ok c.read_bits_of_octets.ensures.only
