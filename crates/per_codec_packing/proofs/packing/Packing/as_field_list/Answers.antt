use Rattle.std.proofs.Common.{ap, ◌∙◌}
use Rattle.per_codec_packing.specs.Packed.{Packed}
use Rattle.per_codec_packing.specs.Spread.{spread}
use Rattle.per_codec_packing.specs.Viewed.{field_list_of}
use Rattle.per_codec_packing.proofs.packing.Packing.as_field_list.Goals as goal

pub returns : goal.returns
unfolding field_list_of
returns c =
    ap (λ l. spread 0 l c.as_slice.result.now) c.as_bitslice.ensures.bits
    ∙ ap (λ l. spread 0 c.self.inside.bits l) c.as_slice.ensures.value
    ∙ ap (λ (p : Packed). p.field_list) c.self.view_is
