use Rattle.asn1_schema_constraints.specs.Bounds.{counts_of}
use Rattle.asn1_schema_constraints.specs.Terms.{size_of}
use Rattle.asn1_model.specs.Schema.{bit_string}
use Rattle.asn1_schema_laws.specs.Records.{asks_bits}
use Rattle.per_codec_reading.specs.Fronts.{freedoms, is_aligned}
use Rattle.per_codec_reading.proofs.Fronts.{err_also}
use Rattle.per_codec_decoder.proofs.Settling.{unfound, also, none_as}
use Rattle.per_codec_decoder.proofs.Finding.{asked_bits, bits_within}
use Rattle.per_codec_decoder.proofs.decoder.DecoderDecoder.decode_bit_string.Goals as goal

pub returns-clause-held : goal.returns-clause-held
returns-clause-held c = also c.read_bit_string-answer.result c.settle.result _ _ c.settle.ensures.same c.read_bit_string-answer.ensures.ok
    (λ x f. bits_within (freedoms c.self.inside.rules) (is_aligned c.self.inside.rules) _ _ (size_of c.sizes-sizes.result) (counts_of c.args.held) _ f)

pub returns-clause-only : goal.returns-clause-only
returns-clause-only c =
    let z = size_of c.sizes-sizes.result in
    let h = counts_of c.args.held in
    err_also c.settle.result (λ x n. none_as _ (λ s. asks_bits s h) _ _ x c.sizes-sizes.ensures n)
    (unfound c.settle.new.self c.read_bit_string-answer.result c.settle.result (asks_bits z h) (bit_string z h) _ _ c.cursor-cursor.result
    c.self.view_is c.cursor-cursor.ensures c.settle.ensures.same c.settle.ensures.owed c.read_bit_string-answer.ensures.only (λ al free a b. asked_bits al free a b z h))
