use Rattle.std.proofs.Common.{◌≡◌, ◌*◌, ◌^◌, ◌<◌, ◌≤◌, flat_map, take}
use Rattle.asn1_model.specs.Numbers.{binary}
use Rattle.per_codec_writing.specs.Characters.{low_bits}
use Rattle.per_codec_writing.proofs.number_units.joined_bits.Given as goal

abbrev pub invariant-loop-octet : goal.invariant-loop-octet
invariant-loop-octet l = record {
  digits : binary l.count l.number ≡ flat_map (low_bits l.base l.width) (take l.octet-index l.octets);
  small : l.number < 2 ^ l.count;
  few : l.count ≤ l.octet-index * 8;
}
