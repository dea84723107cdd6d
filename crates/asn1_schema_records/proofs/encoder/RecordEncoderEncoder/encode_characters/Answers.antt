use Rattle.std.proofs.lemmas.Result.{on_ok_weaker}
use Rattle.asn1_model.specs.Schema.{any_count}
use Rattle.asn1_schema_constraints.specs.Terms.{alphabet_of}
use Rattle.asn1_schema_records.proofs.Putting.{puts_characters}
use Rattle.asn1_schema_records.proofs.encoder.RecordEncoderEncoder.encode_characters.Goals as goal

pub returns-in-Ok-clause-ok : goal.returns-in-Ok-clause-ok
returns-in-Ok-clause-ok g c =
    on_ok_weaker _ (puts_characters _ _ g.S.StaticPermittedAlphabet.kind g.met.S.StaticPermittedAlphabet.holds
    (alphabet_of c.args.constraints.now.permitted_alphabet) any_count c.among.ensures c.in-Ok.ensures) c.put.ensures.ok
