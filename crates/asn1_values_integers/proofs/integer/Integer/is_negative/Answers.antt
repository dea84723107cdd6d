use Rattle.std.proofs.Common.{◌^◌, ap, sym, subst, ◌∙◌}
use Rattle.asn1_values_integers.specs.declared.integer.IntegerKind.{IntegerKind}
use Rattle.asn1_values_integers.specs.Kinds.{IsSmallest, kept_number}
use Rattle.asn1_values_natives.specs.Octets.{is_negative}
use Rattle.asn1_values_integers.proofs.KindLaws.{kept-sign}
use Rattle.asn1_values_integers.proofs.integer.Integer.is_negative.Goals as goal

abbrev Smallest : IntegerKind → Type 0
Smallest = IsSmallest

pub returns-in-Short : goal.returns-in-Short
returns-in-Short c =
    kept-sign (2 ^ 127) c.in-Short.octets c.args.self.now c.has_sign.result (subst Smallest c.in-Short.is c.self.invariant)
    (sym (ap kept_number c.in-Short.is) ∙ c.self.view_is) c.has_sign.ensures

pub returns-in-Long : goal.returns-in-Long
returns-in-Long c =
    kept-sign (2 ^ 128) c.in-Long.octets.items c.args.self.now c.has_sign-in-Long.result (subst Smallest c.in-Long.is c.self.invariant)
    (sym (ap kept_number c.in-Long.is) ∙ c.self.view_is) (c.has_sign-in-Long.ensures ∙ ap is_negative c.deref.ensures.value)
