use Rattle.std.proofs.Common.{◌≡◌, ◌+◌, ◌-◌, ap, ◌∙◌, arith, drop, take}
use Rattle.std.proofs.lemmas.List.{drop-take}
use Rattle.asn1_values_bits.specs.BitStr.{bits_of}
use Rattle.per_codec_packing.specs.FieldLists.{as_field_list}
use Rattle.per_codec_writing.specs.Writing.{plus}
use Rattle.per_codec_writing.proofs.UnitFieldLists.{bits_added}
use Rattle.per_codec_writing.proofs.units.BitStrUnits.push_range.Goals as goal

pub returns : goal.returns
returns c =
    let bs = bits_of c.args.self.now in
    let from = c.args.from in
    let to = c.args.to in
    let reach : to ≡ from + (to - from) = omega (arith, c.requires.order) in
    let part = c.split_at-2.ensures.rest ∙ ap (drop from) c.split_at.ensures.front ∙ ap (λ n. drop from (take n bs)) reach ∙ drop-take from (to - from) bs in
    bits_added bs from to c.args.output.now c.extend_from_bitslice.new.self (c.in_ok-extend_from_bitslice.ensures.ok ∙ ap (λ l. plus c.args.output.now (as_field_list l)) part)
