use Rattle.std.proofs.Common.{◌≡◌, ◌+◌, length, ap, subst, sym, arith}
use Rattle.per_codec_packing.specs.Packed.{solid}
use Rattle.per_codec_packing.proofs.Kept.{bits_alone}
use Rattle.per_codec_packing.proofs.Cutting.{counted}
use Rattle.per_codec_packing.proofs.packing.Packing.padding_count.Goals as goal

pub returns : goal.returns
returns c =
    let b = c.self.inside.bits in
    let f = c.self.inside.paddings.items in
    let p = c.self.inside.is_placed in
    let v = c.args.self.now in
    let n : c.len.result ≡ length f = omega (arith, c.len.ensures, c.self.inside.paddings.ok) in
    subst (λ k. length (solid v.field_list) + k ≡ length v.field_list) (sym n) (counted b f p c.self.invariant v c.self.view_is (ap length (bits_alone b f p c.self.invariant v c.self.view_is)))
