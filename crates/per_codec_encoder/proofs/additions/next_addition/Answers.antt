use Rattle.std.proofs.Common.{Some, reverse, ap, refl, sym, ◌∙◌}
use Rattle.asn1_schema_scopes.specs.Stacks.{stacked}
use Rattle.per_codec_encoder.proofs.additions.next_addition.Goals as goal

pub returns-clause-ok : goal.returns-clause-ok
returns-clause-ok c =
    let f = c.in-Some-Added in
    let s = c.others.inside in
    record {
      around = reverse s.outer.items;
      old = f.additions;
      new = c.count_addition.new.additions;
      before = sym c.others.view_is ∙ ap (λ i. stacked i s.outer.items) (f.is ∙ ap Some f.field-0-is);
      next = c.in_ok-count_addition-in-Some-Added.ensures;
      after = refl;
    }
