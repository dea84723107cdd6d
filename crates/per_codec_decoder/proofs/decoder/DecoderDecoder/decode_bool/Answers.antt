use Rattle.per_codec_decoder.proofs.Settling.{unfound}
use Rattle.asn1_model.specs.Schema.{boolean}
use Rattle.asn1_schema_laws.specs.Records.{asks_flag}
use Rattle.per_codec_decoder.proofs.Finding.{asked_flag}
use Rattle.per_codec_decoder.proofs.decoder.DecoderDecoder.decode_bool.Goals as goal

pub returns-clause-only : goal.returns-clause-only
returns-clause-only c = unfound c.settle.new.self c.read_boolean-answer.result c.settle.result asks_flag boolean _ _ c.cursor-cursor.result
    c.self.view_is c.cursor-cursor.ensures c.settle.ensures.same c.settle.ensures.owed c.read_boolean-answer.ensures.only asked_flag
