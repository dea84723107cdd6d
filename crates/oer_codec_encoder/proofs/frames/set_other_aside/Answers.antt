use Rattle.std.proofs.Common.{◌≡◌, ◌∷◌, Some, reverse, ap, sym, refl, ◌∙◌}
use Rattle.std.specs.Box.{with_value}
use Rattle.asn1_schema_scopes.specs.Stacks.{stacked}
use Rattle.oer_codec_encoder.specs.declared.frame.Bag.{Bag as BagFrame}
use Rattle.oer_codec_encoder.specs.declared.frame.Frame.TheVariants.{Bag}
use Rattle.oer_codec_encoder.proofs.Going.{sets_aside}
use Rattle.oer_codec_encoder.proofs.frames.set_other_aside.Goals as goal

pub returns : goal.returns
returns c b k e =
    let f = c.in-Some-Bag in
    let s = c.others.inside in
    let next = with_value f.bag c.exchange.new.bag in
    let at : s.innermost ≡ Some (Bag f.bag) = cc in
    let old : c.args.others.now ≡ Bag f.bag ∷ reverse s.outer.items = sym c.others.view_is ∙ ap (λ i. stacked i s.outer.items) at in
    let held = c.deref_mut.ensures.value in
    sets_aside c.args.others.now (reverse s.outer.items) _ k b f.bag next c.args.octets.now c.exchange.new.octets old refl
    (c.exchange.ensures.bag ∙ ap (λ (x : BagFrame). record x { outer = c.args.octets.now }) held) (c.exchange.ensures.octets ∙ ap (λ (x : BagFrame). x.outer) held) e
