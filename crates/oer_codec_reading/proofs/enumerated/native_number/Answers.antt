use Rattle.std.proofs.Common.{Some, get_or, ap, ◌∙◌, w64, arith}
use Rattle.std.proofs.lemmas.Int.{to_z_pos}
use Rattle.oer_codec_reading.proofs.Places.{small_item}
use Rattle.oer_codec_reading.proofs.enumerated.native_number.Goals as goal

pub returns-then-octets-lt128 : goal.returns-then-octets-lt128
returns-then-octets-lt128 c = ap Some (to_z_pos w64 (get_or c.args.octets.now 0 0) (omega (arith, c.if-octets-lt128.true))) ∙ small_item c.args.octets.now c.if-octets-eq1.true c.if-octets-lt128.true
