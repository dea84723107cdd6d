use Rattle.std.proofs.Common.{length, drop, take}
use Rattle.asn1_model.specs.Numbers.{octet_bits}
use Rattle.per_codec_reading_values.proofs.Steps.{Begun}
use Rattle.per_codec_reading_values.proofs.codes.are_characters.Given as goal

abbrev pub invariant-loop-octet : goal.invariant-loop-octet
invariant-loop-octet g l = Begun g.S.StaticPermittedAlphabet.kind l.alphabet (length l.octets) l.octet-index (take l.octet-index l.octets)
    (octet_bits (drop l.octet-index l.octets)) (octet_bits l.octets)
