use Rattle.std.proofs.Common.{◌≡◌, ◌++◌, length}
use Rattle.asn1_model.specs.Numbers.{packed}
use Rattle.asn1_model.specs.Versions.{Begins}
use Rattle.asn1_values_bits.specs.BitStr.{bits_of}
use Rattle.asn1_values_bits.specs.Octets.{padded}
use Rattle.oer_codec_writing.proofs.bit_string.push_by_octets.Given as goal

abbrev pub invariant-loop-rest : goal.invariant-loop-rest
invariant-loop-rest l = record {
  text : l.octets.items ++ packed (padded (bits_of l.rest)) ≡ l.fn.octets.items ++ packed (padded (bits_of l.fn.value));
  kept : Begins l.fn.octets.items l.octets.items;
}

abbrev pub decreases-loop-rest : goal.decreases-loop-rest
decreases-loop-rest l = length (bits_of l.rest)
