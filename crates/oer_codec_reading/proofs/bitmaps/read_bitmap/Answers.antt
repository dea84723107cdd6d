use Rattle.std.proofs.Common.{arith}
use Rattle.asn1_model.specs.Oer.{counted_bits, length_form}
use Rattle.asn1_schema_laws.proofs.Joined.{raised}
use Rattle.asn1_values_bits.specs.BitStr.{bits_of}
use Rattle.oer_codec_reading.specs.Fronts.{freedoms}
use Rattle.oer_codec_reading.proofs.BitStringFronts.{few_octets, wrong_unused}
use Rattle.oer_codec_reading.proofs.Fronts.{misses_also}
use Rattle.oer_codec_reading.proofs.BitmapFronts.{no_bitmap, no_length, empty_length, bitmap_read, bitmap_refused}
use Rattle.oer_codec_reading.proofs.bitmaps.read_bitmap.Goals as goal

pub returns-in_err-length-clause-only : goal.returns-in_err-length-clause-only
returns-in_err-length-clause-only c = raised _ _ _ c.from_residual.ensures.1
    (misses_also (freedoms c.args.rules) length_form counted_bits c.args.cursor.now c.args.cursor.now _ (no_length c.args.rules c.args.cursor.now) c.in_err-length.ensures.only)

pub returns-then-length-eq0-clause-only : goal.returns-then-length-eq0-clause-only
returns-then-length-eq0-clause-only c = empty_length c.args.rules c.args.cursor.now c.read_length.new.cursor c.in_ok-length.length c.if-length-eq0.true c.in_ok-length.ensures.ok

pub returns-then-length-len-clause-only : goal.returns-then-length-len-clause-only
returns-then-length-len-clause-only c = no_bitmap c.args.rules c.args.cursor.now
    (few_octets c.args.rules c.args.cursor.now c.read_length.new.cursor c.in_ok-length.length c.if-length-eq0.false (omega arith) c.in_ok-length.ensures.ok)

pub returns-in_default-clause-only : goal.returns-in_default-clause-only
returns-in_default-clause-only c = no_bitmap c.args.rules c.args.cursor.now
    (wrong_unused c.args.rules c.args.cursor.now c.read_length.new.cursor c.take_octet.new.self c.in_ok-length.length c.in_ok-unused.unused
    c.if-length-eq0.false c.in_ok-unused.ensures.octet.0 c.in_default.ensures.none c.in_ok-length.ensures.ok)

pub returns-clause-ok : goal.returns-clause-ok
returns-clause-ok c = bitmap_read c.args.rules (bits_of c.in_ok-bits.bits) c.args.cursor.now c.read_length.new.cursor c.take_octet.new.self
    c.read_bits_of_octets.new.cursor c.in_ok-length.length c.in_ok-unused.unused c.in-Some.count c.in_ok-unused.ensures.octet.0
    c.in-Some.ensures.some.0 c.in-Some.ensures.some.1 c.in_ok-length.ensures.ok c.in_ok-bits.ensures.ok

pub returns-in_err-bits-clause-only : goal.returns-in_err-bits-clause-only
returns-in_err-bits-clause-only c = raised _ _ _ c.from_residual-in_err-bits.ensures.1
    (bitmap_refused c.args.rules _ c.args.cursor.now c.read_length.new.cursor c.take_octet.new.self c.in_ok-length.length c.in_ok-unused.unused
    c.in-Some.count c.if-length-eq0.false c.in_ok-unused.ensures.octet.0 c.in-Some.ensures.some.0 c.in-Some.ensures.some.1 c.in_ok-length.ensures.ok c.in_err-bits.ensures.only)
