use Rattle.std.proofs.Common.{sym, ◌∙◌}
use Rattle.asn1_schema_laws.proofs.Joined.{raised}
use Rattle.asn1_schema_authored.proofs.Writing.{writes_default_there, cannot_default_there}
use Rattle.asn1_schema_authored.proofs.encode.EncodeExtension.encode_extension_addition_with_default.Goals as goal

pub returns-in_err-encode_present_addition-clause-only : goal.returns-in_err-encode_present_addition-clause-only
returns-in_err-encode_present_addition-clause-only g c =
    let law = g.met.V.DefaultOf.lawful in
    raised _ _ _ c.from_residual-in_err-encode_present_addition.ensures.1
    (cannot_default_there g.T.Described.typed (g.T.Described.valued _) law.is_value (sym c.is_default.ensures ∙ c.if-is_default.false) _
    g.T.Described.is_own (rw c.constraints.ensures at c.in_err-encode_present_addition.ensures.only))

pub returns-clause-ok : goal.returns-clause-ok
returns-clause-ok g c =
    let law = g.met.V.DefaultOf.lawful in
    writes_default_there g.T.Described.typed (g.T.Described.valued _) law.is_value (sym c.is_default.ensures ∙ c.if-is_default.false) _
    g.T.Described.is_own (rw c.constraints.ensures at c.in_ok-encode_present_addition.ensures.ok)
