use Rattle.asn1_schema_constraints.specs.Terms.{bounds_of, held_of}
use Rattle.per_codec_reading.specs.Fronts.{freedoms, is_aligned}
use Rattle.per_codec_decoder.proofs.Settling.{unfound, also}
use Rattle.asn1_model.specs.Schema.{integer}
use Rattle.asn1_schema_laws.specs.Records.{asks_whole}
use Rattle.per_codec_decoder.proofs.Finding.{asked_whole, number_within}
use Rattle.per_codec_decoder.proofs.decoder.DecoderDecoder.decode_integer.Goals as goal

pub returns-clause-within : goal.returns-clause-within
returns-clause-within g c = also c.read_integer-answer.result c.settle.result _ _ c.settle.ensures.same c.read_integer-answer.ensures.ok
    (λ x f. number_within (freedoms c.self.inside.rules) (is_aligned c.self.inside.rules) _ _ (bounds_of c.args.constraints.now.value) (held_of c.args.constraints.now.value g.I.IntegerType.held) _ f)

pub returns-clause-only : goal.returns-clause-only
returns-clause-only g c = unfound c.settle.new.self c.read_integer-answer.result c.settle.result
    (asks_whole (bounds_of c.args.constraints.now.value) (held_of c.args.constraints.now.value g.I.IntegerType.held))
    (integer (bounds_of c.args.constraints.now.value) (held_of c.args.constraints.now.value g.I.IntegerType.held)) _ _ c.cursor-cursor.result
    c.self.view_is c.cursor-cursor.ensures c.settle.ensures.same c.settle.ensures.owed c.read_integer-answer.ensures.only
    (λ al free a b. asked_whole al free a b (bounds_of c.args.constraints.now.value) (held_of c.args.constraints.now.value g.I.IntegerType.held))
