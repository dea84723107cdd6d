use Rattle.asn1_model.specs.Schema.{any_count}
use Rattle.asn1_schema_constraints.specs.Terms.{sizes_of, alphabet_of}
use Rattle.per_codec_decoder.proofs.Settling.{uncharacters}
use Rattle.asn1_model.specs.Schema.{utf8}
use Rattle.per_codec_decoder.proofs.decoder.DecoderDecoder.decode_utf8_string.Goals as goal

pub returns-clause-only : goal.returns-clause-only
returns-clause-only c = uncharacters c.settle.new.self c.read_utf8_string-answer.result c.settle.result utf8 (sizes_of c.args.constraints.now.size)
    (alphabet_of c.args.constraints.now.permitted_alphabet) any_count _ _ c.cursor-cursor.result c.self.view_is c.cursor-cursor.ensures
    c.settle.ensures.same c.settle.ensures.owed c.read_utf8_string-answer.ensures.only
