use Rattle.std.proofs.Common.{◌<◌, ◌≤◌, arith}
use Rattle.asn1_values_natives.proofs.OctetLaws.{octet_room, unsigned-more}
use Rattle.oer_codec_reading.proofs.Rooms.{room}
use Rattle.oer_codec_reading.proofs.magnitudes.short_magnitude.Goals as goal

pub overflow_mul-total : goal.overflow_mul-total
overflow_mul-total c = let i : c.loop-octet.octet-index ≤ 7 = omega arith in let r = room c.loop-octet.octet-index c.loop-octet.total i c.loop-octet.invariant.small in omega (arith, r)

pub overflow_add-total : goal.overflow_add-total
overflow_add-total c = let i : c.loop-octet.octet-index ≤ 7 = omega arith in let r = room c.loop-octet.octet-index c.loop-octet.total i c.loop-octet.invariant.small in omega (arith, r)

pub loop-octet-preserved : goal.loop-octet-preserved
loop-octet-preserved c =
    let d : c.from.result < 256 = omega arith in
    record {
      value = rw (c.from.ensures, c.without_sign.ensures) (unsigned-more c.args.negative c.args.octets.now c.loop-octet.octet-index c.loop-octet.total
          c.loop-octet-test.true c.loop-octet.invariant.value);
      small = octet_room c.loop-octet.octet-index c.loop-octet.total c.from.result c.loop-octet.invariant.small d;
    }
