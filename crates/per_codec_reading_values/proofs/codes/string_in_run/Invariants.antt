use Rattle.std.proofs.Common.{◌≤◌}
use Rattle.asn1_values_bits.specs.BitStr.{bits_of}
use Rattle.per_codec_reading.specs.Unread.{code_bits}
use Rattle.per_codec_reading_values.proofs.Steps.{Begun}
use Rattle.per_codec_reading_values.proofs.codes.string_in_run.Given as goal

abbrev pub invariant-loop-place : goal.invariant-loop-place
invariant-loop-place g l = record {
  begun : Begun g.S.StaticPermittedAlphabet.kind l.alphabet l.count l.place l.octets.items (code_bits l.alphabet.code_bits l.unread) (bits_of l.codes);
  few : l.unread.due ≤ 8;
}
