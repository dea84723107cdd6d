use Rattle.std.proofs.Common.{◌≡◌, ◌==◌, length, ap, sym, ◌∙◌, arith}
use Rattle.std.proofs.lemmas.Bool.{eqb-true}
use Rattle.std.proofs.lemmas.List.{nil_from_length}
use Rattle.per_codec_packing.proofs.Kept.{nothing_there, no_bits, no_paddings}
use Rattle.per_codec_packing.proofs.packing.Packing.is_empty.Goals as goal

pub returns-then-is_empty : goal.returns-then-is_empty
returns-then-is_empty c =
    let paddings = c.self.inside.paddings in (
      λ t. let n = eqb-true _ _ (sym c.is_empty-then-is_empty.ensures ∙ t) in
          nothing_there c.self.inside.bits paddings.items c.self.inside.is_placed c.self.invariant c.args.self.now c.self.view_is
          (c.is_empty.ensures.0 c.if-is_empty.true) (nil_from_length paddings.items (omega (arith, n, paddings.ok))),
      λ e. let n = no_paddings c.self.inside.bits paddings.items c.self.inside.is_placed c.self.invariant c.args.self.now c.self.view_is e in
          let z : paddings.len ≡ 0 = omega (arith, ap length n, paddings.ok) in c.is_empty-then-is_empty.ensures ∙ ap (λ k. k == 0) z,
    )

pub returns-else-is_empty : goal.returns-else-is_empty
returns-else-is_empty c = (
  λ t. let e = sym c.if-is_empty.false ∙ t in absurd (cc),
  λ e. c.is_empty.ensures.1 (no_bits c.self.inside.bits c.self.inside.paddings.items c.self.inside.is_placed c.self.invariant c.args.self.now c.self.view_is e),
)
