use Rattle.std.proofs.Common.{◌≡◌, ◌<◌, ◌^◌, map, take}
use Rattle.asn1_values_natives.specs.Octets.{unsigned_number, sign_free}
use Rattle.oer_codec_reading.proofs.magnitudes.short_magnitude.Given as goal

abbrev pub invariant-loop-octet : goal.invariant-loop-octet
invariant-loop-octet l = record {
  value : l.total ≡ unsigned_number (map (sign_free l.negative) (take l.octet-index l.octets));
  small : l.total < 256 ^ l.octet-index;
}
