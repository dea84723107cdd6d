use Rattle.per_codec_decoder.proofs.Settling.{unfound}
use Rattle.asn1_model.specs.Schema.{object_identifier}
use Rattle.asn1_schema_laws.specs.Records.{asks_identifier}
use Rattle.per_codec_decoder.proofs.Finding.{asked_identifier}
use Rattle.per_codec_decoder.proofs.decoder.DecoderDecoder.decode_object_identifier.Goals as goal

pub returns-clause-only : goal.returns-clause-only
returns-clause-only c = unfound c.settle.new.self c.read_object_identifier-answer.result c.settle.result asks_identifier object_identifier _ _
    c.cursor-cursor.result c.self.view_is c.cursor-cursor.ensures c.settle.ensures.same c.settle.ensures.owed c.read_object_identifier-answer.ensures.only asked_identifier
