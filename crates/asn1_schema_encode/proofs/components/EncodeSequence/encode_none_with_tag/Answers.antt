use Rattle.asn1_schema_laws.proofs.Joined.{raised}
use Rattle.asn1_schema_encode.proofs.Writing.{writes_left_out, cannot_presence_bit}
use Rattle.std.proofs.Common.{refl}
use Rattle.asn1_model.specs.Schema.{optional}
use Rattle.asn1_schema_encode.proofs.components.EncodeSequence.encode_none_with_tag.Goals as goal

pub returns-in_err-encode_presence_bit-clause-only : goal.returns-in_err-encode_presence_bit-clause-only
returns-in_err-encode_presence_bit-clause-only g c = raised _ _ _ c.from_residual.ensures.1 (cannot_presence_bit optional _ _ _ refl refl c.in_err-encode_presence_bit.ensures.only)

pub returns-clause-ok : goal.returns-clause-ok
returns-clause-ok g c = writes_left_out optional _ c.in_ok-encode_presence_bit.ensures.ok
