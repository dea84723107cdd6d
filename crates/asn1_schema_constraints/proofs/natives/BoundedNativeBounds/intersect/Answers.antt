use Rattle.std.proofs.Common.{◌≡◌, ◌∙◌, ap, sym, subst, true, IfSome}
use Rattle.asn1_schema_constraints.specs.Bounds.{admits_by, are_admitting}
use Rattle.asn1_schema_constraints.proofs.ByNumber.{native_order, common_admits, common_some}
use Rattle.asn1_schema_constraints.proofs.natives.BoundedNativeBounds.intersect.Goals as goal

pub returns-clause-admits : goal.returns-clause-admits
returns-clause-admits g c = λ v.
    let number = g.T.NativeInteger.number in
    ap (λ r. are_admitting (admits_by number) r v) c.common.ensures
    ∙ common_admits number (native_order number g.met.T.NativeInteger.injective) c.args.self.now c.args.other v

pub returns-clause-some : goal.returns-clause-some
returns-clause-some g c =
    let number = g.T.NativeInteger.number in
    subst (λ r. IfSome r (λ b. (v : _) × (admits_by number b v ≡ true))) (sym c.common.ensures)
    (common_some number (native_order number g.met.T.NativeInteger.injective) g.T.NativeInteger.ZERO c.args.self.now c.args.other)
