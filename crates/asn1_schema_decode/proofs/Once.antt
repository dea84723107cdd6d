-- Two messages with which one input begins are equal.
use Rattle.std.proofs.Common.{◌≡◌, true, sym, ◌∙◌, ap, subst, ◌++◌}
use Rattle.std.proofs.lemmas.List.{append_cancel_left}
use Rattle.asn1_model.specs.Rules.{Rules}
use Rattle.asn1_model.specs.Value.{same}
use Rattle.asn1_model.specs.Normal.{normal}
use Rattle.asn1_laws_fronts.specs.Laws.{OneFrontIn}
use Rattle.asn1_laws_values.proofs.Normal.{normal_same}
use Rattle.asn1_schema_decode.specs.Messages.{OneMessageIn}

pub one_message : (rules : Rules) → OneFrontIn rules → OneMessageIn rules
one_message rules one schema v w input x y lawful t u =
    let s = schema 128 in
    let a = t.message.message in
    let b = u.message.message in
    let e : a ++ x ≡ b ++ y = t.message.in_front ∙ sym u.message.in_front in
    let p = one s t.raw u.raw a b x y lawful t.message.encoding u.message.encoding e in
    let n : same (normal s t.raw) (normal s u.raw) ≡ true = normal_same s t.raw u.raw p.1 in (
      subst (λ k. same v k ≡ true) u.means (subst (λ k. same k (normal s u.raw) ≡ true) t.means n),
      append_cancel_left a x y (e ∙ ap (λ l. l ++ y) (sym p.0)),
    )
