use Rattle.std.proofs.Common.{arith}
use Rattle.std.proofs.lemmas.Bool.{false≢true}
use Rattle.std.proofs.lemmas.Bool.Decides.{Decides-int_eq}
use Rattle.std.proofs.lemmas.Slice.Eq.{slice_eq-Decides}
use Rattle.asn1_table_extending.proofs.Matched.{begins_by, begins_length, begun_by}
use Rattle.asn1_table_extending.proofs.constraints.begins_with.Goals as goal

pub returns : goal.returns
returns c =
    let d = slice_eq-Decides Decides-int_eq _ _ _ c.eq.ensures in
    (λ h. begins_by c.args.first.now c.args.items.now _ (d.0 h), λ b. d.1 (begun_by c.args.first.now c.args.items.now b))

pub returns-then-first-items : goal.returns-then-first-items
returns-then-first-items c =
    (λ h. absurd (false≢true h), λ b. absurd (omega (arith, begins_length c.args.first.now c.args.items.now b, c.if-first-items.true)))
