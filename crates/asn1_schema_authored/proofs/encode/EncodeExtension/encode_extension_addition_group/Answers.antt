use Rattle.std.proofs.Common.{refl, sym, ◌∙◌}
use Rattle.asn1_schema_laws.proofs.Joined.{raised}
use Rattle.asn1_schema_laws.proofs.Groups.{group_kept}
use Rattle.asn1_schema_authored.proofs.GroupWriting.{writes_kept, cannot_kept}
use Rattle.asn1_schema_authored.proofs.encode.EncodeExtension.encode_extension_addition_group.Goals as goal

pub returns-in_err-encode_present_group-clause-only : goal.returns-in_err-encode_present_group-clause-only
returns-in_err-encode_present_group-clause-only g c = raised _ _ _ c.from_residual-in_err-encode_present_group.ensures.1
    (rw c.in-Some.is (cannot_kept (group_kept g.G.Group.plain (g.G.Group.each _) _ refl) (sym c.is_empty.ensures ∙ c.if-is_empty.false) c.in_err-encode_present_group.ensures.only))

pub returns-clause-ok : goal.returns-clause-ok
returns-clause-ok g c = rw c.in-Some.is (writes_kept (group_kept g.G.Group.plain (g.G.Group.each _) _ refl) (sym c.is_empty.ensures ∙ c.if-is_empty.false) c.in_ok-encode_present_group.ensures.ok)
