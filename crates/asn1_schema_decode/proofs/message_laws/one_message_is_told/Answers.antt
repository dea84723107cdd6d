use Rattle.asn1_schema_decode.proofs.Once as Once
use Rattle.asn1_schema_decode.proofs.message_laws.one_message_is_told.Goals as goal

pub returns : goal.returns
returns c rules one = Once.one_message rules one
