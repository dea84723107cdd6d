use Rattle.std.proofs.Common.{◌^◌, arith, ap, sym, subst, ◌∙◌}
use Rattle.asn1_values_integers.specs.declared.integer.IntegerKind.{IntegerKind}
use Rattle.asn1_values_integers.specs.Kinds.{IsSmallest, kept_number}
use Rattle.asn1_values_integers.proofs.KindLaws.{kept-signed}
use Rattle.asn1_values_integers.proofs.integer.Integer.to_signed_bytes_be.Goals as goal

abbrev Smallest : IntegerKind → Type 0
Smallest = IsSmallest

pub returns-in-Short : goal.returns-in-Short
returns-in-Short c =
    kept-signed (2 ^ 127) c.in-Short.octets c.lent.result c.args.self.now (omega arith) (subst Smallest c.in-Short.is c.self.invariant)
    (sym (ap kept_number c.in-Short.is) ∙ c.self.view_is) c.lent.ensures

pub returns-in-Long : goal.returns-in-Long
returns-in-Long c =
    kept-signed (2 ^ 128) c.in-Long.octets.items c.lent-in-Long.result c.args.self.now (omega arith) (subst Smallest c.in-Long.is c.self.invariant)
    (sym (ap kept_number c.in-Long.is) ∙ c.self.view_is) (c.lent-in-Long.ensures ∙ c.deref.ensures.value)
