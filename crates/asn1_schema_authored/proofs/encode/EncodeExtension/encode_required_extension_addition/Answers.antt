use Rattle.std.proofs.Common.{refl}
use Rattle.asn1_model.specs.Schema.{required}
use Rattle.asn1_schema_laws.proofs.Joined.{raised}
use Rattle.asn1_schema_authored.proofs.Writing.{writes_addition, cannot_addition, plain_noted}
use Rattle.asn1_schema_authored.proofs.encode.EncodeExtension.encode_required_extension_addition.Goals as goal

pub returns-in_err-encode_present_addition-clause-only : goal.returns-in_err-encode_present_addition-clause-only
returns-in_err-encode_present_addition-clause-only g c = raised _ _ _ c.from_residual.ensures.1
    (cannot_addition required _ (plain_noted g.T.Described.typed required _ (λ n. refl)) g.T.Described.is_own (rw c.constraints.ensures at c.in_err-encode_present_addition.ensures.only))

pub returns-clause-ok : goal.returns-clause-ok
returns-clause-ok g c = writes_addition required _ (plain_noted g.T.Described.typed required _ (λ n. refl)) g.T.Described.is_own
    (rw c.constraints.ensures at c.in_ok-encode_present_addition.ensures.ok)
