use Rattle.std.proofs.Common.{◌∙◌, sym}
use Rattle.asn1_schema_wrapped.specs.Meaning.{alike_behind}
use Rattle.asn1_schema_wrapped.proofs.equality.behind_equal.Goals as goal

pub loop-x-preserved : goal.loop-x-preserved
loop-x-preserved g c =
    let here = c.in-Some-Some in
    alike_behind (g.met.T.PartialEq.laws) here.x.now here.y.now here.ensures.cases.0 here.ensures'.cases.0 (sym c.ne.ensures ∙ c.if-ne.false)
    ∙ c.loop-x.invariant
