use Rattle.asn1_schema_laws.proofs.Joined.{raised}
use Rattle.asn1_schema_encode.proofs.SingleRecords.{writes_character_string, cannot_character_string}
use Rattle.asn1_schema_encode.proofs.strings.StringEncode.encode_with_tag_and_constraints.Goals as goal

pub returns-in_err-encode_utf8_string-clause-only : goal.returns-in_err-encode_utf8_string-clause-only
returns-in_err-encode_utf8_string-clause-only g c = raised _ _ _ c.from_residual.ensures.1 (cannot_character_string _ _ _ _ (rw c.as_str.ensures.value at c.in_err-encode_utf8_string.ensures.only))

pub returns-clause-ok : goal.returns-clause-ok
returns-clause-ok g c = writes_character_string _ _ _ _ (rw c.as_str.ensures.value at c.in_ok-encode_utf8_string.ensures.ok)
