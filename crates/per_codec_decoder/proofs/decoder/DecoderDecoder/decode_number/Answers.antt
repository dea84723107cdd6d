use Rattle.asn1_model.specs.Schema.{integer, wide_range}
use Rattle.asn1_schema_forms.specs.Forms.{form_bounds}
use Rattle.asn1_schema_laws.specs.Records.{asks_whole}
use Rattle.per_codec_decoder.proofs.Settling.{unfound}
use Rattle.per_codec_decoder.proofs.Finding.{asked_whole}
use Rattle.per_codec_decoder.proofs.decoder.DecoderDecoder.decode_number.Goals as goal

pub returns-clause-only : goal.returns-clause-only
returns-clause-only c = unfound c.settle.new.self c.read_in_form-answer.result c.settle.result (asks_whole (form_bounds c.args.form.now) wide_range)
    (integer (form_bounds c.args.form.now) wide_range) _ _ c.cursor-cursor.result
    c.self.view_is c.cursor-cursor.ensures c.settle.ensures.same c.settle.ensures.owed c.read_in_form-answer.ensures.only
    (λ al free a b. asked_whole al free a b (form_bounds c.args.form.now) wide_range)
