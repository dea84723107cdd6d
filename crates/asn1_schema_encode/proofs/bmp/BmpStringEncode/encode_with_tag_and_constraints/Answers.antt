use Rattle.asn1_schema_laws.proofs.Joined.{raised}
use Rattle.asn1_schema_encode.proofs.SingleRecords.{writes_character_string, cannot_character_string}
use Rattle.asn1_schema_encode.proofs.bmp.BmpStringEncode.encode_with_tag_and_constraints.Goals as goal

pub returns-in_err-encode_characters-clause-only : goal.returns-in_err-encode_characters-clause-only
returns-in_err-encode_characters-clause-only g c = raised _ _ _ c.from_residual.ensures.1 (cannot_character_string _ _ _ _ c.in_err-encode_characters.ensures.only)

pub returns-clause-ok : goal.returns-clause-ok
returns-clause-ok g c = writes_character_string _ _ _ _ c.in_ok-encode_characters.ensures.ok
