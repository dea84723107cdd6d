use Rattle.asn1_values_bits.specs.BitStr.{bits_of}
use Rattle.per_codec_reading_values.proofs.Steps.{Begun}
use Rattle.per_codec_reading_values.proofs.codes.string_of_bits.Given as goal

abbrev pub invariant-loop-place : goal.invariant-loop-place
invariant-loop-place g l = Begun g.S.StaticPermittedAlphabet.kind l.alphabet l.count l.place (g.S.StaticPermittedAlphabet.characters l.string) (bits_of l.rest) (bits_of l.codes)
