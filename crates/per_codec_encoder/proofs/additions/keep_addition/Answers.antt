use Rattle.std.proofs.Common.{Some, reverse, ap, refl, sym, ◌∙◌}
use Rattle.asn1_schema_scopes.specs.Stacks.{stacked}
use Rattle.per_codec_encoder.proofs.Added.{kept}
use Rattle.per_codec_encoder.proofs.additions.keep_addition.Goals as goal

pub returns-clause-ok : goal.returns-clause-ok
returns-clause-ok c =
    let f = c.in-Some-Added in
    let a = f.additions in
    let s = c.others.inside in
    record {
      around = reverse s.outer.items;
      old = a;
      new = kept a.due a.given a.start a.end c.push_present.new.self;
      before = sym c.others.view_is ∙ ap (λ i. stacked i s.outer.items) (f.is ∙ ap Some f.field-0-is);
      next = record { counts = refl; given = refl; start = refl; end = refl; slots = c.in_ok-push_present-in-Some-Added.ensures.ok };
      after = refl;
    }
